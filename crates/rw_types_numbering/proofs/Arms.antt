-- Bindings of patterns.
use Rattle.std.proofs.Common.{◌≡◌, ◌∙◌, suc, List, [], ◌∷◌, ◌++◌, append_assoc, length, refl, sym, ap}
use Rattle.rw_scope_rules.specs.declared.binding.Bound.{Bound}
use Rattle.rw_tree.specs.declared.clause.Local.{Local}
use Rattle.rw_tree.specs.declared.clause.Local.TheVariants as local
use Rattle.rw_tree.specs.declared.clause.Alt.{Alt}
use Rattle.rw_tree.specs.Trees.{alternative_of, local_binding, local_pattern}
use Rattle.rw_tree.proofs.Plains.{local_binding-Pattern}
use Rattle.rw_types_rules.specs.declared.kind.VariableKind.{VariableKind}
use Rattle.rw_types_rules.specs.declared.kind.VariableKind.TheVariants.{Plain}
use Rattle.rw_types_rules.specs.Schemes.{World}
use Rattle.rw_types_equations.specs.declared.numbered.Numbered.{Numbered}
use Rattle.rw_types_numbering.specs.Slots.{clause_slots, binding_slots}
use Rattle.rw_types_numbering.specs.Numbering.{label, numbered_clause, numbered_binding}

one_longer : {A : Type 0} (xs : List A) (x : A) → length (xs ++ x ∷ []) ≡ suc (length xs)
one_longer [] x = refl
one_longer (y ∷ xs) x = ap suc (one_longer xs x)

pub pattern_tree : (w : World) (old mid : List VariableKind) (tree : Local Bound) (a : Bound) (row : Alt Bound) (at : Numbered) (made : Alt Numbered) → tree ≡ local.Pattern a row → at ≡ label a (length old) 0 → mid ≡ old ++ Plain ∷ []
    → alternative_of (λ z. z) made ≡ numbered_clause w (length mid) (alternative_of (λ z. z) row) → local_binding (λ z. z) (local.Pattern at made) ≡ numbered_binding w (length old) (local_binding (λ z. z) tree)
pattern_tree w old mid tree a row at made e p q h =
    let n : length mid ≡ suc (length old) = ap length q ∙ one_longer old Plain in
    let c : alternative_of (λ z. z) made ≡ numbered_clause w (suc (length old)) (alternative_of (λ z. z) row) = h ∙ ap (λ k. numbered_clause w k (alternative_of (λ z. z) row)) n in
    local_binding-Pattern (λ z. z) at made ∙ (λ i. local_pattern (p i) (c i))
    ∙ sym (ap (λ z. numbered_binding w (length old) (local_binding (λ y. y) z)) e ∙ ap (numbered_binding w (length old)) (local_binding-Pattern (λ z. z) a row))

pub pattern_kinds : (w : World) (old mid new : List VariableKind) (tree : Local Bound) (a : Bound) (row : Alt Bound) → tree ≡ local.Pattern a row → mid ≡ old ++ Plain ∷ [] → new ≡ mid ++ clause_slots w (alternative_of (λ z. z) row)
    → new ≡ old ++ binding_slots w (local_binding (λ z. z) tree)
pattern_kinds w old mid new tree a row e q h =
    h ∙ ap (λ z. z ++ clause_slots w (alternative_of (λ y. y) row)) q ∙ append_assoc old (Plain ∷ []) (clause_slots w (alternative_of (λ y. y) row))
    ∙ sym (ap (λ z. old ++ binding_slots w (local_binding (λ y. y) z)) e ∙ ap (λ z. old ++ binding_slots w z) (local_binding-Pattern (λ y. y) a row))
