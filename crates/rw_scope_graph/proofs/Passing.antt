-- Whether one or all of a list pass a test.
use Rattle.std.proofs.Common.{◌≡◌, ◌≢◌, ◌⊎◌, inl, inr, ℕ, zero, suc, ◌<◌, ◌≤◌, Bool, true, false, not, ◌&&◌, ◌||◌, nat_eq, List, [], ◌∷◌, take, slice_get, Some, None, refl, sym, ap, ◌∙◌, arith}
use Rattle.std.specs.List.{list_any, list_all}
use Rattle.std.proofs.lemmas.Bool.Decides.{nat_tests}

pub true_or_false : (b : Bool) → (b ≡ true) ⊎ (b ≡ false)
true_or_false true = inl refl
true_or_false false = inr refl

pub is_same : (x y : ℕ) → nat_eq x y ≡ true → x ≡ y
is_same x y e = grind (arith, nat_tests)

pub same_is : (x y : ℕ) → x ≡ y → nat_eq x y ≡ true
same_is x y e = grind (arith, nat_tests)

pub other_is : (x y : ℕ) → x ≢ y → nat_eq x y ≡ false
other_is x y e = elim (true_or_false (nat_eq x y)) [ inl h ↦ absurd (e (is_same x y h)) | inr h ↦ h ]

pub is_other : (x y : ℕ) → nat_eq x y ≡ false → x ≢ y
is_other x y h e = let k : true ≡ false = sym (same_is x y e) ∙ h in cc

pub same_or_other : (x y : ℕ) → (x ≡ y) ⊎ (x ≢ y)
same_or_other x y = elim (true_or_false (nat_eq x y)) [ inl h ↦ inl (is_same x y h) | inr h ↦ inr (is_other x y h) ]

pub in_or_out : (x n : ℕ) → (x < n) ⊎ (n ≤ x)
in_or_out x n = grind arith

pub or_left : (a b : Bool) → a ≡ true → (a || b) ≡ true
or_left a b e = ap (λ c. c || b) e

pub or_right : (a b : Bool) → b ≡ true → (a || b) ≡ true
or_right true b e = refl
or_right false b e = e

pub either : (a b : Bool) → (a || b) ≡ true → (a ≡ true) ⊎ (b ≡ true)
either true b e = inl refl
either false b e = inr e

pub neither : (a b : Bool) → (a || b) ≡ false → (a ≡ false) × (b ≡ false)
neither true b e = absurd (cc)
neither false b e = (refl, e)

pub both : (a b : Bool) → (a && b) ≡ true → (a ≡ true) × (b ≡ true)
both true b e = (refl, e)
both false b e = absurd (cc)

pub and_true : (a b : Bool) → a ≡ true → b ≡ true → (a && b) ≡ true
and_true a b e f = ap (λ c. c && b) e ∙ f

pub not_false : (b : Bool) → b ≡ false → not b ≡ true
not_false b e = ap not e

pub is_false : (b : Bool) → not b ≡ true → b ≡ false
is_false true e = absurd (cc)
is_false false e = refl

pub clash : {P : Type 0} (b : Bool) → b ≡ true → b ≡ false → P
clash b e f = let k : true ≡ false = sym e ∙ f in absurd (cc)

module _ {X : Type 0} where
  pub any_more : (p q : X → Bool) (xs : List X) → ((x : X) → p x ≡ true → q x ≡ true) → list_any p xs ≡ true → list_any q xs ≡ true
  any_more p q [] h e = e
  any_more p q (x ∷ xs) h e = elim (either (p x) (list_any p xs) e) [
    | inl l ↦ or_left (q x) (list_any q xs) (h x l)
    | inr r ↦ or_right (q x) (list_any q xs) (any_more p q xs h r)
  ]

  pub all_more : (p q : X → Bool) (xs : List X) → ((x : X) → p x ≡ true → q x ≡ true) → list_all p xs ≡ true → list_all q xs ≡ true
  all_more p q [] h e = refl
  all_more p q (x ∷ xs) h e =
      let b = both (p x) (list_all p xs) e in
      and_true (q x) (list_all q xs) (h x b.0) (all_more p q xs h b.1)

  -- where all pass one test, which keeps them from another, none passes that
  pub none_where_all : (p q : X → Bool) (xs : List X) → ((x : X) → p x ≡ true → q x ≡ false) → list_all p xs ≡ true → list_any q xs ≡ false
  none_where_all p q [] h e = refl
  none_where_all p q (x ∷ xs) h e =
      let b = both (p x) (list_all p xs) e in
      ap (λ c. c || list_any q xs) (h x b.0) ∙ none_where_all p q xs h b.1

  pub any_at : (p : X → Bool) (xs : List X) (k : ℕ) (x : X) → slice_get xs k ≡ Some x → p x ≡ true → list_any p xs ≡ true
  any_at p [] k x e h = absurd (cc)
  any_at p (y ∷ ys) zero x e h = let same : y ≡ x = cc in or_left (p y) (list_any p ys) (ap p same ∙ h)
  any_at p (y ∷ ys) (suc k) x e h = or_right (p y) (list_any p ys) (any_at p ys k x e h)

  pub all_next : (p : X → Bool) (xs : List X) (k : ℕ) (x : X) → slice_get xs k ≡ Some x → p x ≡ true → list_all p (take k xs) ≡ true → list_all p (take (suc k) xs) ≡ true
  all_next p [] k x e h a = refl
  all_next p (y ∷ ys) zero x e h a = let same : y ≡ x = cc in and_true (p y) true (ap p same ∙ h) refl
  all_next p (y ∷ ys) (suc k) x e h a =
      let b = both (p y) (list_all p (take k ys)) a in
      and_true (p y) (list_all p (take (suc k) ys)) b.0 (all_next p ys k x e h b.1)

  pub all_done : (p : X → Bool) (xs : List X) (k : ℕ) → slice_get xs k ≡ None → list_all p (take k xs) ≡ true → list_all p xs ≡ true
  all_done p [] k e a = refl
  all_done p (y ∷ ys) zero e a = absurd (cc)
  all_done p (y ∷ ys) (suc k) e a =
      let b = both (p y) (list_all p (take k ys)) a in
      and_true (p y) (list_all p ys) b.0 (all_done p ys k e b.1)
