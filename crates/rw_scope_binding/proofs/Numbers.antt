-- What is built by numbers is what is bound by scopes.
use Rattle.std.proofs.Common.{◌≡◌, ℕ, ◌+◌, ◌≤◌, List, [], ◌∷◌, length, true, false, ◌||◌, nat_lt, Some, None, refl, sym, ap, ◌∙◌, if◌then◌else◌, arith}
use Rattle.std.proofs.lemmas.Bool.Decides.{nat_tests}
use Rattle.std.proofs.lemmas.Grind.{common_steps}
use Rattle.rw_base.specs.declared.place.Span.{Span}
use Rattle.rw_tree.specs.Patterns.{Pattern, wildcard, variable_pattern, constructor_pattern, tuple_pattern, Patterns, no_patterns, more_patterns}
use Rattle.rw_tree.specs.Trees.{alternative, LocalBinding, local_signature, local_function, local_pattern, more_bindings, binding_parts}
use Rattle.rw_scope_rules.specs.declared.binding.Binding.TheVariants.{Local}
use Rattle.rw_scope_rules.specs.Names.{Bytes, same_name, is_among}
use Rattle.rw_scope_rules.specs.Bindings.{Tops, Scope, entered, inside, inside_group, local_number, pattern_variables, binding_variables, names_of, group_names, unnamed, bound_to, bound_constructor, bound_pattern, bound_parts, bound_row, bound_clauses, bound_side, bound_binding, bound_group}
use Rattle.rw_scope_binding.specs.Stack.{number_at}
use Rattle.rw_scope_binding.specs.Own.{own}
use Rattle.rw_scope_binding.specs.Numbered.{numbered_pattern, numbered_parts, numbered_row, numbered_binding, numbered_bindings}
use Rattle.rw_scope_binding.proofs.Stacks.{length-entered}

-- the binding of a local name is its number
pub local_number-at : (x : Bytes) (scope : Scope) (k : ℕ) → number_at x scope ≡ Some k → local_number x scope ≡ Some (Local k)
local_number-at x [] k e = cc
local_number-at x (y ∷ scope) k e = elim (same_name x y) as (λ v. (if v || false then Some (length scope) else number_at x scope) ≡ Some k
    → (if v || false then Some (Local (length scope)) else local_number x scope) ≡ Some (Local k)) [
      | true ↦ (λ h. cc)
      | false ↦ (λ h. local_number-at x scope k h)
    ] e

pub local_number-none : (x : Bytes) (scope : Scope) → number_at x scope ≡ None → local_number x scope ≡ None
local_number-none x [] e = refl
local_number-none x (y ∷ scope) e = elim (same_name x y) as (λ v. (if v || false then Some (length scope) else number_at x scope) ≡ None
    → (if v || false then Some (Local (length scope)) else local_number x scope) ≡ None) [
      | true ↦ (λ h. cc)
      | false ↦ (λ h. local_number-none x scope h)
    ] e

-- == The names of a group ==

-- a name that is bound before all of these is none of them
not_own : (x : Bytes) (outer : ℕ) (scope : Scope) → length scope ≤ outer → own outer (number_at x scope) ≡ None
not_own x outer [] h = refl
not_own x outer (y ∷ scope) h = elim (same_name x y) as (λ v. own outer (if v || false then Some (length scope) else number_at x scope) ≡ None) [
  | true ↦ (let low : nat_lt (length scope) outer ≡ true = grind (arith, nat_tests) in ap (λ b. if b then None else Some (Local (length scope))) low)
  | false ↦ not_own x outer scope (omega arith)
]

-- a name that isn't among these is what it was before
other_number : (x : Bytes) (names : List Bytes) (scope : Scope) → is_among x names ≡ false → local_number x (entered names scope) ≡ local_number x scope
other_number x [] scope h = refl
other_number x (y ∷ ys) scope h = elim (same_name x y) as (λ v. v ≡ same_name x y → v || is_among x ys ≡ false → local_number x (entered ys (y ∷ scope)) ≡ local_number x scope) [
  | true ↦ (λ e g. cc)
  | false ↦ (λ e g. other_number x ys (y ∷ scope) g ∙ sym (ap (λ b. if b || false then Some (Local (length scope)) else local_number x scope) e))
] refl h

own_among : (x : Bytes) (outer : ℕ) (names : List Bytes) (start : Scope) → outer ≤ length start
    → own outer (number_at x (entered names start)) ≡ (if is_among x names then local_number x (entered names start) else own outer (number_at x start))
own_among x outer [] start h = refl
own_among x outer (y ∷ ys) start h =
    own_among x outer ys (y ∷ start) (omega arith)
    ∙ elim (is_among x ys) as (λ w. w ≡ is_among x ys → (if w then local_number x (entered ys (y ∷ start)) else own outer (number_at x (y ∷ start)))
    ≡ (if same_name x y || w then local_number x (entered ys (y ∷ start)) else own outer (number_at x start))) [
      | true ↦ (λ e. elim (same_name x y) as (λ v. local_number x (entered ys (y ∷ start)) ≡ (if v || true then local_number x (entered ys (y ∷ start)) else own outer (number_at x start))) [ true ↦ refl | false ↦ refl ])
      | false ↦ (λ e. elim (same_name x y) as (λ v. v ≡ same_name x y → own outer (if v || false then Some (length start) else number_at x start)
          ≡ (if v || false then local_number x (entered ys (y ∷ start)) else own outer (number_at x start))) [
            | true ↦ (λ s. let high : nat_lt (length start) outer ≡ false = grind (arith, nat_tests) in
                ap (λ b. if b then None else Some (Local (length start))) high
                ∙ ap (λ b. if b || false then Some (Local (length start)) else local_number x start) s
                ∙ sym (other_number x ys (y ∷ start) (sym e)))
            | false ↦ (λ s. refl)
          ] refl)
    ] refl

pub own_signature : (x : Bytes) (names : List Bytes) (start : Scope)
    → own (length start) (number_at x (entered names start)) ≡ (if is_among x names then local_number x (entered names start) else None)
own_signature x names start =
    own_among x (length start) names start (omega arith)
    ∙ ap (λ r. if is_among x names then local_number x (entered names start) else r) (not_own x (length start) start (omega arith))

-- == Trees ==

counted : {X : Type 0} (vs : List (Bytes × X)) (scope : Scope) → length (entered (names_of vs) scope) ≡ length scope + length vs
counted vs scope = length-entered (names_of vs) scope ∙ grind (arith, common_steps)

module _ (tops : Tops) where
  mutual
    pub numbered_pattern-bound : (n : ℕ) (scope : Scope) (p : Pattern Span) → n ≡ length scope → numbered_pattern tops n p ≡ bound_pattern tops scope p
    numbered_pattern-bound n scope (wildcard a) e = refl
    numbered_pattern-bound n scope (variable_pattern a x) e = ap (λ k. variable_pattern (bound_to a (Some (Local k))) x) e
    numbered_pattern-bound n scope (constructor_pattern a c parts) e = ap (constructor_pattern (bound_constructor tops a c) c) (numbered_parts-bound n scope parts e)
    numbered_pattern-bound n scope (tuple_pattern a parts) e = ap (tuple_pattern (unnamed a)) (numbered_parts-bound n scope parts e)

    numbered_parts-bound : (n : ℕ) (scope : Scope) (ps : Patterns Span) → n ≡ length scope → numbered_parts tops n ps ≡ bound_parts tops scope ps
    numbered_parts-bound n scope no_patterns e = refl
    numbered_parts-bound n scope (more_patterns p ps) e =
        ap (λ q. more_patterns q (numbered_parts tops (n + length (pattern_variables p)) ps)) (numbered_pattern-bound n scope p e)
        ∙ ap (more_patterns (bound_pattern tops scope p)) (numbered_parts-bound (n + length (pattern_variables p)) (inside p scope) ps (omega (arith, e, counted (pattern_variables p) scope)))

  pub numbered_row-bound : (n : ℕ) (scope : Scope) (ps : List (Pattern Span)) → n ≡ length scope → numbered_row tops n ps ≡ bound_row tops scope ps
  numbered_row-bound n scope [] e = refl
  numbered_row-bound n scope (p ∷ ps) e =
      ap (λ q. q ∷ numbered_row tops (n + length (pattern_variables p)) ps) (numbered_pattern-bound n scope p e)
      ∙ ap (λ r. bound_pattern tops scope p ∷ r) (numbered_row-bound (n + length (pattern_variables p)) (inside p scope) ps (omega (arith, e, counted (pattern_variables p) scope)))

  module _ (names : List Bytes) (start : Scope) where
    binding-bound : (n : ℕ) (before : Scope) (b : LocalBinding Span) → n ≡ length before
        → numbered_binding tops (length start) (entered names start) n b ≡ bound_binding tops names (entered names start) before b
    binding-bound n before (local_signature a x type) e = ap (λ v. local_signature (bound_to a v) x type) (own_signature x names start)
    binding-bound n before (local_function a x clauses) e = ap (λ k. local_function (bound_to a (Some (Local k))) x (bound_clauses tops (entered names start) clauses)) e
    binding-bound n before (local_pattern a (alternative b pats side wheres)) e =
        ap (λ row. local_pattern (unnamed a) (alternative (unnamed b) row
        (bound_side tops (inside_group wheres (entered names start)) side)
        (bound_group tops (group_names wheres) (inside_group wheres (entered names start)) (entered names start) wheres))) (numbered_row-bound n before pats e)

    bindings-bound : (n : ℕ) (before : Scope) (bs : List (LocalBinding Span)) → n ≡ length before
        → binding_parts (numbered_bindings tops (length start) (entered names start) n bs) ≡ bound_group tops names (entered names start) before (binding_parts bs)
    bindings-bound n before [] e = refl
    bindings-bound n before (b ∷ bs) e =
        ap (λ c. more_bindings c (binding_parts (numbered_bindings tops (length start) (entered names start) (n + length (binding_variables b)) bs))) (binding-bound n before b e)
        ∙ ap (more_bindings (bound_binding tops names (entered names start) before b)) (bindings-bound (n + length (binding_variables b)) (entered (names_of (binding_variables b)) before) bs (omega (arith, e, counted (binding_variables b) before)))

  -- a group whose names are in scope
  pub group-bound : (outer : ℕ) (scope start : Scope) (bs : List (LocalBinding Span)) → scope ≡ inside_group (binding_parts bs) start → outer ≡ length start
      → binding_parts (numbered_bindings tops outer scope outer bs) ≡ bound_group tops (group_names (binding_parts bs)) (inside_group (binding_parts bs) start) start (binding_parts bs)
  group-bound outer scope start bs is e =
      ap (λ n. binding_parts (numbered_bindings tops n scope n bs)) e ∙ ap (λ s. binding_parts (numbered_bindings tops (length start) s (length start) bs)) is
      ∙ bindings-bound (group_names (binding_parts bs)) start (length start) start bs refl
