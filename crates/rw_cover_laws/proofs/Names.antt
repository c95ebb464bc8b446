-- Lists and names: a list without one of its items, and names that are in a list.
use Rattle.std.proofs.Common.{◌≡◌, ◌⊎◌, inl, inr, refl, sym, ap, subst, ◌∙◌, suc, Bool, true, false, ◌||◌, List, [], ◌∷◌, flat_map, length}
use Rattle.rw_scope_rules.specs.Names.{Bytes, same_name, is_among}
use Rattle.rw_scope_rules.proofs.Basics.{same_is, In, in_front, in_back}

module _ {X : Type 0} where
  -- a list without one of its items
  abbrev pub without : (x : X) (xs : List X) → In x xs → List X
  without x [] i = absurd i
  without x (y ∷ ys) (inl e) = ys
  without x (y ∷ ys) (inr r) = y ∷ without x ys r

  pub length_without : (x : X) (xs : List X) (i : In x xs) → length xs ≡ suc (length (without x xs i))
  length_without x [] i = absurd i
  length_without x (y ∷ ys) (inl e) = refl
  length_without x (y ∷ ys) (inr r) = ap suc (length_without x ys r)

  pub in_without : (x : X) (xs : List X) (i : In x xs) (z : X) → In z xs → (In z (without x xs i)) ⊎ (z ≡ x)
  in_without x [] i z j = absurd i
  in_without x (y ∷ ys) (inl e) z (inl f) = inr (f ∙ sym e)
  in_without x (y ∷ ys) (inl e) z (inr r) = inl r
  in_without x (y ∷ ys) (inr r) z (inl f) = inl (inl f)
  in_without x (y ∷ ys) (inr r) z (inr s) = elim (in_without x ys r z s) [ inl j ↦ inl (inr j) | inr f ↦ inr f ]

pub in_flat : {X Y : Type 0} (f : X → List Y) (xs : List X) (x : X) (y : Y) → In x xs → In y (f x) → In y (flat_map f xs)
in_flat f [] x y i h = absurd i
in_flat f (z ∷ zs) x y (inl e) h = in_front y (f z) (flat_map f zs) (subst (λ w. In y (f w)) e h)
in_flat f (z ∷ zs) x y (inr r) h = in_back y (f z) (flat_map f zs) (in_flat f zs x y r h)

or_true : (a b : Bool) → b ≡ true → (a || b) ≡ true
or_true true b e = refl
or_true false b e = e

pub among : (x : Bytes) (names : List Bytes) → In x names → is_among x names ≡ true
among x [] i = absurd i
among x (y ∷ ys) (inl e) = ap (λ b. b || is_among x ys) (subst (λ z. same_name x z ≡ true) e (same_is x x refl))
among x (y ∷ ys) (inr r) = or_true (same_name x y) (is_among x ys) (among x ys r)
