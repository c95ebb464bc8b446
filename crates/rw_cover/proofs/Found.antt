-- Looking for a name from the front of a list.
use Rattle.std.proofs.Common.{◌≡◌, ◌∙◌, ◌↔◌, refl, sym, subst, ℕ, ◌+◌, ◌<◌, List, [], ◌∷◌, ◌++◌, map, drop, get_or, length, Bool, true, false, Option, Some, None, if◌then◌else◌, IsTrue, IsSome, is_some, add-one, drop-cons}
use Rattle.std.proofs.lemmas.Slice.Eq.{bytes_eq-Decides}
use Rattle.rw_scope_rules.specs.declared.binding.Binding.{Binding}
use Rattle.rw_scope_rules.specs.declared.binding.Bound.{Bound}
use Rattle.rw_scope_rules.specs.Names.{Bytes, same_name, first_named}
use Rattle.rw_scope_rules.specs.Bindings.{declared_by, placed_constructors}
use Rattle.rw_tree.specs.Views.{itself}
use Rattle.rw_tree.specs.declared.decl.Constructor.{Constructor}
use Rattle.rw_tree.specs.declared.decl.Decl.{Decl}
use Rattle.rw_tree.specs.Declarations.{Declaration, declaration, plain_constructor}

-- names that differ
other_name : (x y : Bytes) (b : Bool) → (IsTrue b ↔ (y ≡ x)) → b ≡ false → same_name x y ≡ false
other_name x y b is h =
    elim (same_name x y) as (λ s. same_name x y ≡ s → s ≡ false) [ true ↦ (λ e. let yes : b ≡ true = is.1 (sym ((bytes_eq-Decides x y).0 e)) in cc) | false ↦ (λ e. refl) ] refl

-- a constructor with another name
pub place_passed : (x : Bytes) (n at : ℕ) (cs : List Constructor) (made : Constructor) (b : Bool) → at < length cs → (IsTrue b ↔ ((get_or cs at made).name ≡ x)) → b ≡ false
    → first_named x (placed_constructors n at (map plain_constructor (drop at cs))) ≡ first_named x (placed_constructors n (at + 1) (map plain_constructor (drop (at + 1) cs)))
place_passed x n at cs made b within is h =
    rw (drop-cons cs at made, other_name x (get_or cs at made).name b is h, add-one) refl

behind_none : {V : Type 0} (x : Bytes) (vs ws : List (Bytes × V)) → first_named x vs ≡ None → first_named x (vs ++ ws) ≡ first_named x ws
behind_none x [] ws h = refl
behind_none x (v ∷ vs) ws h =
    elim (same_name x v.0) as (λ b. (if b then Some v.1 else first_named x vs) ≡ None → (if b then Some v.1 else first_named x (vs ++ ws)) ≡ first_named x ws)
    [ true ↦ (λ e. absurd (cc)) | false ↦ (λ e. behind_none x vs ws e) ] h

behind_some : {V : Type 0} (x : Bytes) (vs ws : List (Bytes × V)) → IsSome (first_named x vs) → first_named x (vs ++ ws) ≡ first_named x vs
behind_some x [] ws h = absurd (cc)
behind_some x (v ∷ vs) ws h =
    elim (same_name x v.0) as (λ b. IsSome (if b then Some v.1 else first_named x vs) → (if b then Some v.1 else first_named x (vs ++ ws)) ≡ (if b then Some v.1 else first_named x vs))
    [ true ↦ (λ e. refl) | false ↦ (λ e. behind_some x vs ws e) ] h

nothing : {V : Type 0} (found : Option V) → false ≡ is_some found → found ≡ None
nothing None h = refl
nothing (Some v) h = absurd (cc)

module _ (declared : ℕ → Declaration Bound → List (Bytes × Binding)) (x : Bytes) (at : ℕ) (ds : List (Decl Bound)) (d : Decl Bound) (within : at < length ds) (here : d ≡ get_or ds at d) where
  abbrev left_from : ℕ → Option Binding
  left_from n = first_named x (declared_by declared n (map (declaration itself) (drop n ds)))

  behind : left_from at ≡ first_named x (declared at (declaration itself d) ++ declared_by declared (at + 1) (map (declaration itself) (drop (at + 1) ds)))
  behind = rw (drop-cons ds at d, ← here, add-one) refl

  -- a declaration that doesn't declare the name
  pub declaration_passed : (found : Option Binding) → found ≡ first_named x (declared at (declaration itself d)) → false ≡ is_some found → left_from at ≡ left_from (at + 1)
  declaration_passed found is none = behind ∙ behind_none x (declared at (declaration itself d)) (declared_by declared (at + 1) (map (declaration itself) (drop (at + 1) ds))) (sym is ∙ nothing found none)

  -- one that does
  pub declaration_found : (found : Option Binding) → found ≡ first_named x (declared at (declaration itself d)) → true ≡ is_some found → found ≡ left_from at
  declaration_found found is some =
      is ∙ sym (behind ∙ behind_some x (declared at (declaration itself d)) (declared_by declared (at + 1) (map (declaration itself) (drop (at + 1) ds))) (subst IsSome is (sym some)))
