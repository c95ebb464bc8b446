-- The table and the binders, after a name is bound and after the latest is unbound.
use Rattle.std.proofs.Common.{◌≡◌, ℕ, ◌<◌, List, [], ◌∷◌, ◌++◌, length, reverse, Option, Some, None, true, false, ◌||◌, refl, sym, ap, subst, ◌∙◌, if◌then◌else◌, arith, length-append}
use Rattle.std.proofs.lemmas.List.{reverse-append}
use Rattle.std.proofs.lemmas.Grind.{common_steps}
use Rattle.rw_scope_rules.specs.Names.{Bytes, same_name, first_named}
use Rattle.rw_scope_rules.specs.Bindings.{Scope}
use Rattle.rw_scope_binding.specs.Stack.{number_at}
use Rattle.rw_scope_binding.specs.Binders.{names_from_latest, joined, Remembers, IsStack}
use Rattle.rw_scope_binding.specs.declared.locals.Binder.{Binder}
use Rattle.rw_scope_rules.proofs.Basics.{one_name, same_is}

latest_first : (bs : List Binder) (b : Binder) → reverse (bs ++ b ∷ []) ≡ b ∷ reverse bs
latest_first bs b = reverse-append bs (b ∷ [])

-- one name less: the table gets back what its binder remembers
module _ (latest latest' : List (Bytes × Option ℕ)) (b : Binder) (scope : Scope) where
  hidden : ((x : Bytes) → joined (first_named x latest) ≡ number_at x (b.name ∷ scope)) → b.before ≡ number_at b.name scope
      → ((x : Bytes) → first_named x latest' ≡ first_named x ((b.name, b.before) ∷ latest)) → (x : Bytes) → joined (first_named x latest') ≡ number_at x scope
  hidden tells before told x =
      ap joined (told x) ∙ elim (same_name x b.name) as (λ v. v ≡ same_name x b.name → joined (if v then Some b.before else first_named x latest) ≡ number_at x scope) [
        | true ↦ (λ e. before ∙ ap (λ z. number_at z scope) (sym (one_name x b.name (sym e))))
        | false ↦ (λ e. tells x ∙ ap (λ v. if v || false then Some (length scope) else number_at x scope) (sym e))
      ] refl

pub unbound : (latest latest' : List (Bytes × Option ℕ)) (old new : List Binder) (b : Binder) → IsStack latest old → old ≡ new ++ b ∷ []
    → ((x : Bytes) → first_named x latest' ≡ first_named x ((b.name, b.before) ∷ latest)) → IsStack latest' new
unbound latest latest' old new b stack is told =
    let order : reverse old ≡ b ∷ reverse new = ap reverse is ∙ latest_first new b in
    let remembers : Remembers (b ∷ reverse new) = subst Remembers order stack.remembers in
    let tells : (x : Bytes) → joined (first_named x latest) ≡ number_at x (b.name ∷ names_from_latest (reverse new)) =
    λ x. stack.tells x ∙ ap (λ bs. number_at x (names_from_latest bs)) order in
    record {
      tells = hidden latest latest' b (names_from_latest (reverse new)) tells remembers.0 told;
      remembers = remembers.1;
      few = let few = stack.few in omega (arith, ap length is, length-append new (b ∷ []));
    }

-- the latest name stands in the table
pub never_absent : (latest : List (Bytes × Option ℕ)) (old new : List Binder) (b : Binder) → IsStack latest old → old ≡ new ++ b ∷ [] → first_named b.name latest ≡ None → ⊥
never_absent latest old new b stack is absent =
    let order : reverse old ≡ b ∷ reverse new = ap reverse is ∙ latest_first new b in
    let scope = names_from_latest (reverse new) in
    let none : None ≡ Some (length scope) =
    ap joined (sym absent) ∙ stack.tells b.name ∙ ap (λ bs. number_at b.name (names_from_latest bs)) order
    ∙ ap (λ v. if v || false then Some (length scope) else number_at b.name scope) (same_is b.name b.name refl) in
    cc

-- one name more
more : (latest latest' : List (Bytes × Option ℕ)) (name : Bytes) (n : ℕ) (scope : Scope) → ((x : Bytes) → joined (first_named x latest) ≡ number_at x scope) → n ≡ length scope
    → ((x : Bytes) → first_named x latest' ≡ first_named x ((name, Some n) ∷ latest)) → (x : Bytes) → joined (first_named x latest') ≡ number_at x (name ∷ scope)
more latest latest' name n scope tells same told x =
    ap joined (told x) ∙ elim (same_name x name) as (λ v. joined (if v then Some (Some n) else first_named x latest) ≡ (if v || false then Some (length scope) else number_at x scope)) [
      | true ↦ ap (λ k. Some k) same
      | false ↦ tells x
    ]

pub bound_more : (latest latest' : List (Bytes × Option ℕ)) (old new : List Binder) (b : Binder) → IsStack latest old → new ≡ old ++ b ∷ []
    → b.before ≡ number_at b.name (names_from_latest (reverse old)) → length old < 4294967295
    → ((x : Bytes) → first_named x latest' ≡ first_named x ((b.name, Some (length old)) ∷ latest)) → IsStack latest' new
bound_more latest latest' old new b stack is hides few told =
    let order : reverse new ≡ b ∷ reverse old = ap reverse is ∙ latest_first old b in
    let scope : Scope = names_from_latest (reverse old) in
    let count : length old ≡ length (names_from_latest (reverse old)) = grind (arith, common_steps) in
    let remembers : Remembers (b ∷ reverse old) = (hides, stack.remembers) in
    record {
      tells = λ x. more latest latest' b.name (length old) (names_from_latest (reverse old)) stack.tells count told x ∙ sym (ap (λ bs. number_at x (names_from_latest bs)) order);
      remembers = subst Remembers (sym order) remembers;
      few = omega (arith, ap length is, length-append old (b ∷ []));
    }
