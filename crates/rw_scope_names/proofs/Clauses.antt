-- The clauses of a local function, as a list and in the tree.
use Rattle.std.proofs.Common.{◌≡◌, ◌∙◌, ℕ, refl, sym, ap, List, [], ◌∷◌, map}
use Rattle.rw_base.specs.declared.place.Span.{Span}
use Rattle.rw_tree.specs.declared.clause.Local.{Local}
use Rattle.rw_tree.specs.declared.clause.Local.TheVariants as local
use Rattle.rw_tree.specs.declared.clause.Alt.{Alt}
use Rattle.rw_tree.specs.Trees.{Alternative, alternative_of, alternative_parts, local_binding}
use Rattle.rw_tree.proofs.Plains.{local_binding-Fun}
use Rattle.rw_scope_rules.specs.Nodes.{binding_node, clauses_of}
use Rattle.rw_scope_rules.specs.Scope.{uneven, uneven_in_node}

clauses_of-listed : (cs : List (Alternative Span)) → clauses_of (alternative_parts cs) ≡ cs
clauses_of-listed [] = refl
clauses_of-listed (c ∷ cs) = ap (λ ds. c ∷ ds) (clauses_of-listed cs)

pub uneven_in-Fun : (b : Local Span) (a : Span) (x : List ℕ) (rows given : List (Alt Span)) → b ≡ local.Fun a x rows → given ≡ rows
    → uneven (map (alternative_of (λ s. s)) given) ≡ uneven_in_node (binding_node (local_binding (λ s. s) b))
uneven_in-Fun b a x rows given is same =
    ap (λ rs. uneven (map (alternative_of (λ s. s)) rs)) same ∙ ap uneven (sym (clauses_of-listed (map (alternative_of (λ s. s)) rows)))
    ∙ sym (ap (λ (l : Local Span). uneven_in_node (binding_node (local_binding (λ s. s) l))) is ∙ ap (λ l. uneven_in_node (binding_node l)) (local_binding-Fun (λ s. s) a x rows))
