-- The equations that bind a tree step by step, in sets.
use Rattle.std.proofs.Common.{◌≡◌, ℕ, ◌+◌, ◌<◌, List, [], ◌∷◌, ◌++◌, length, map, drop, get_or, refl, sym, ap, ◌∙◌, arith}
use Rattle.std.proofs.lemmas.Grind.{common_steps}
use Rattle.rw_base.specs.declared.place.Span.{Span}
use Rattle.rw_tree.specs.Views.{itself}
use Rattle.rw_tree.specs.declared.pattern.Pat.{Pat}
use Rattle.rw_tree.specs.declared.clause.Local.{Local}
use Rattle.rw_tree.specs.Patterns.{Pattern, pattern, patterns}
use Rattle.rw_tree.specs.Trees.{LocalBinding, binding_parts, local_binding}
use Rattle.rw_scope_rules.specs.Names.{Bytes}
use Rattle.rw_scope_rules.specs.Bindings.{Scope, entered, names_of, pattern_variables, row_variables, binding_variables, group_variables, inside, inside_row, inside_group}
use Rattle.rw_scope_binding.proofs.Stacks.{entered-append, lowest-all, lowest-below_last, lowest-entered, lowest-entered_twice}
use Rattle.rw_scope_binding.proofs.Listed.{lowest-after_steps}
use Rattle.rw_scope_binding.proofs.Numbers.{local_number-at, local_number-none}

names-append : {X : Type 0} (us vs : List (Bytes × X)) → names_of (us ++ vs) ≡ names_of us ++ names_of vs
names-append [] vs = refl
names-append (u ∷ us) vs = ap (λ r. u.0 ∷ r) (names-append us vs)

pub inside_row-more : (p : Pattern Span) (ps : List (Pattern Span)) (scope : Scope) → inside_row (p ∷ ps) scope ≡ inside_row ps (inside p scope)
inside_row-more p ps scope =
    ap (λ xs. entered xs scope) (names-append (pattern_variables p) (row_variables ps)) ∙ entered-append (names_of (pattern_variables p)) (names_of (row_variables ps)) scope

pub inside_group-more : (b : LocalBinding Span) (bs : List (LocalBinding Span)) (scope : Scope)
    → inside_group (binding_parts (b ∷ bs)) scope ≡ inside_group (binding_parts bs) (entered (names_of (binding_variables b)) scope)
inside_group-more b bs scope =
    ap (λ xs. entered xs scope) (names-append (binding_variables b) (group_variables (binding_parts bs)))
    ∙ entered-append (names_of (binding_variables b)) (names_of (group_variables (binding_parts bs))) scope

-- one name more of a list of patterns, and of a group
pub row_entered : (pats : List (Pat Span)) (i : ℕ) (p : Pat Span) (s s' whole : Scope) → i < length pats → p ≡ get_or pats i p → s' ≡ inside (pattern itself p) s
    → inside_row (patterns itself (drop i pats)) s ≡ whole → inside_row (patterns itself (drop (i + 1) pats)) s' ≡ whole
row_entered pats i p s s' whole within read same so_far =
    let next : drop i pats ≡ p ∷ drop (i + 1) pats = grind (arith, common_steps) in
    ap (inside_row (patterns itself (drop (i + 1) pats))) same
    ∙ sym (inside_row-more (pattern itself p) (patterns itself (drop (i + 1) pats)) s)
    ∙ ap (λ ps. inside_row (patterns itself ps) s) (sym next) ∙ so_far

pub group_entered : (locals : List (Local Span)) (i : ℕ) (b : Local Span) (s s' whole : Scope) → i < length locals → b ≡ get_or locals i b → s' ≡ entered (names_of (binding_variables (local_binding itself b))) s
    → inside_group (binding_parts (map (local_binding itself) (drop i locals))) s ≡ whole → inside_group (binding_parts (map (local_binding itself) (drop (i + 1) locals))) s' ≡ whole
group_entered locals i b s s' whole within read same so_far =
    let next : drop i locals ≡ b ∷ drop (i + 1) locals = grind (arith, common_steps) in
    ap (inside_group (binding_parts (map (local_binding itself) (drop (i + 1) locals)))) same
    ∙ sym (inside_group-more (local_binding itself b) (map (local_binding itself) (drop (i + 1) locals)) s)
    ∙ ap (λ bs. inside_group (binding_parts (map (local_binding itself) bs)) s) (sym next) ∙ so_far

pub ruleset leave_steps = (lowest-all, lowest-below_last)

pub ruleset local_steps = (local_number-at, local_number-none)

pub ruleset scope_steps = (lowest-entered, lowest-entered_twice, lowest-after_steps)
