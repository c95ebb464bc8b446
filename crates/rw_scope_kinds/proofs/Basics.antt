-- Tests that all of a list pass.
use Rattle.std.proofs.Common.{◌≡◌, inl, inr, Bool, true, false, ◌&&◌, List, [], ◌∷◌, refl, ap, ◌∙◌}
use Rattle.std.specs.List.{list_all}
use Rattle.rw_scope_rules.proofs.Basics.{true_or_false, clash, In}

pub both_true : (a b : Bool) → (a && b) ≡ true → (a ≡ true) × (b ≡ true)
both_true true b e = (refl, e)
both_true false b e = absurd (cc)

pub and_true : (a b : Bool) → a ≡ true → b ≡ true → (a && b) ≡ true
and_true a b e f = ap (λ c. c && b) e ∙ f

pub and_false : (a b : Bool) → b ≡ false → (a && b) ≡ false
and_false true b e = e
and_false false b e = refl

module _ {X : Type 0} where
  pub all_of : (p : X → Bool) (xs : List X) → list_all p xs ≡ true → (x : X) → In x xs → p x ≡ true
  all_of p [] e x h = absurd h
  all_of p (y ∷ ys) e x (inl s) = ap p s ∙ (both_true (p y) (list_all p ys) e).0
  all_of p (y ∷ ys) e x (inr r) = all_of p ys (both_true (p y) (list_all p ys) e).1 x r

  pub all_if : (p : X → Bool) (xs : List X) → ((x : X) → In x xs → p x ≡ true) → list_all p xs ≡ true
  all_if p [] h = refl
  all_if p (y ∷ ys) h = and_true (p y) (list_all p ys) (h y (inl refl)) (all_if p ys (λ x r. h x (inr r)))

  pub none_all : (p : X → Bool) (xs : List X) (x : X) → In x xs → p x ≡ false → list_all p xs ≡ false
  none_all p xs x h e = elim (true_or_false (list_all p xs)) [
    | inl a ↦ clash (p x) (all_of p xs a x h) e
    | inr n ↦ n
  ]
