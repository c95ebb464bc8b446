-- The variables of patterns and the names of let groups, tree by tree and in lists.
use Rattle.std.proofs.Common.{◌≡◌, ◌∙◌, ℕ, ◌+◌, ◌<◌, ◌≤◌, refl, sym, ap, List, [], ◌∷◌, ◌++◌, append_assoc, drop, get_or, length, map, arith}
use Rattle.std.proofs.lemmas.Grind.{common_steps}
use Rattle.rw_base.specs.declared.place.Span.{Span}
use Rattle.rw_base.specs.declared.place.Place.{Place}
use Rattle.rw_tree.specs.Views.{itself}
use Rattle.rw_tree.specs.declared.pattern.Pat.{Pat}
use Rattle.rw_tree.specs.declared.clause.Local.{Local}
use Rattle.rw_tree.specs.Patterns.{Pattern, pattern, pattern_parts, patterns}
use Rattle.rw_tree.specs.Trees.{binding_parts, local_binding}
use Rattle.rw_scope_rules.specs.Names.{Bytes, repeated}
use Rattle.rw_scope_rules.specs.Bindings.{parts_variables, pattern_variables, row_variables, binding_variables, group_variables}

pub parts_variables-listed : {X : Type 0} (ps : List (Pattern X)) → parts_variables (pattern_parts ps) ≡ row_variables ps
parts_variables-listed [] = refl
parts_variables-listed (p ∷ ps) = ap (λ vs. pattern_variables p ++ vs) (parts_variables-listed ps)

-- one pattern more of several
pub row_seen : (pats : List (Pat Span)) (i : ℕ) (p : Pat Span) (seen now : List Bytes) (old new whole : List Place) (rest : List (Bytes × Span)) → i < length pats → p ≡ get_or pats i p
    → ((after : List (Bytes × Span)) → new ++ repeated now after ≡ old ++ repeated seen (pattern_variables (pattern itself p) ++ after))
    → old ++ repeated seen (row_variables (patterns itself (drop i pats)) ++ rest) ≡ whole
    → new ++ repeated now (row_variables (patterns itself (drop (i + 1) pats)) ++ rest) ≡ whole
row_seen pats i p seen now old new whole rest within read step so_far =
    let next : drop i pats ≡ p ∷ drop (i + 1) pats = grind (arith, common_steps) in
    let left = row_variables (patterns itself (drop (i + 1) pats)) in
    step (left ++ rest) ∙ ap (λ vs. old ++ repeated seen vs) (sym (append_assoc (pattern_variables (pattern itself p)) left rest))
    ∙ ap (λ ps. old ++ repeated seen (row_variables (patterns itself ps) ++ rest)) (sym next) ∙ so_far

-- one binding more of a group
pub binding_seen : (locals : List (Local Span)) (i : ℕ) (b : Local Span) (seen now : List Bytes) (old new whole : List Place) → i < length locals → b ≡ get_or locals i b
    → ((after : List (Bytes × Span)) → new ++ repeated now after ≡ old ++ repeated seen (binding_variables (local_binding itself b) ++ after))
    → old ++ repeated seen (group_variables (binding_parts (map (local_binding itself) (drop i locals)))) ≡ whole
    → new ++ repeated now (group_variables (binding_parts (map (local_binding itself) (drop (i + 1) locals)))) ≡ whole
binding_seen locals i b seen now old new whole within read step so_far =
    let next : drop i locals ≡ b ∷ drop (i + 1) locals = grind (arith, common_steps) in
    step (group_variables (binding_parts (map (local_binding itself) (drop (i + 1) locals))))
    ∙ ap (λ bs. old ++ repeated seen (group_variables (binding_parts (map (local_binding itself) bs)))) (sym next) ∙ so_far

-- none is left
pub row_end : (pats : List (Pat Span)) (i : ℕ) (seen : List Bytes) (old whole : List Place) (rest : List (Bytes × Span)) → length pats ≤ i
    → old ++ repeated seen (row_variables (patterns itself (drop i pats)) ++ rest) ≡ whole → old ++ repeated seen rest ≡ whole
row_end pats i seen old whole rest past so_far =
    let none : drop i pats ≡ [] = grind (arith, common_steps) in
    ap (λ ps. old ++ repeated seen (row_variables (patterns itself ps) ++ rest)) (sym none) ∙ so_far
