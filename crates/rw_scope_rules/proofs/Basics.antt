-- Tests, names that are the same, and what is in a list.
use Rattle.std.proofs.Common.{◌≡◌, ◌⊎◌, inl, inr, Bool, true, false, List, [], ◌∷◌, ◌++◌, refl, sym, ◌∙◌}
use Rattle.std.proofs.lemmas.Slice.Eq.{bytes_eq-Decides}
use Rattle.rw_scope_rules.specs.Names.{Bytes, same_name}

pub true_or_false : (b : Bool) → (b ≡ true) ⊎ (b ≡ false)
true_or_false true = inl refl
true_or_false false = inr refl

pub clash : {P : Type 0} (b : Bool) → b ≡ true → b ≡ false → P
clash b e f = let k : true ≡ false = sym e ∙ f in absurd (cc)

pub one_name : (a b : Bytes) → same_name a b ≡ true → a ≡ b
one_name a b e = (bytes_eq-Decides a b).0 e

pub same_is : (a b : Bytes) → a ≡ b → same_name a b ≡ true
same_is a b e = (bytes_eq-Decides a b).1 e

pub swapped : (a b : Bytes) → same_name a b ≡ same_name b a
swapped a b = elim (true_or_false (same_name a b)) [
  | inl e ↦ e ∙ sym (same_is b a (sym (one_name a b e)))
  | inr e ↦ elim (true_or_false (same_name b a)) [
    | inl f ↦ clash (same_name a b) (same_is a b (sym (one_name b a f))) e
    | inr f ↦ e ∙ sym f
  ]
]

-- what is in a list
abbrev pub In : {X : Type 0} → X → List X → Type 0
In x [] = ⊥
In x (y ∷ ys) = (x ≡ y) ⊎ In x ys

module _ {X : Type 0} where
  pub in_front : (x : X) (xs ys : List X) → In x xs → In x (xs ++ ys)
  in_front x [] ys h = absurd h
  in_front x (z ∷ zs) ys (inl e) = inl e
  in_front x (z ∷ zs) ys (inr r) = inr (in_front x zs ys r)

  pub in_back : (x : X) (xs ys : List X) → In x ys → In x (xs ++ ys)
  in_back x [] ys h = h
  in_back x (z ∷ zs) ys h = inr (in_back x zs ys h)

  pub in_parts : (x : X) (xs ys : List X) → In x (xs ++ ys) → (In x xs) ⊎ (In x ys)
  in_parts x [] ys h = inr h
  in_parts x (z ∷ zs) ys (inl e) = inl (inl e)
  in_parts x (z ∷ zs) ys (inr r) = elim (in_parts x zs ys r) [ inl l ↦ inl (inr l) | inr k ↦ inr k ]
