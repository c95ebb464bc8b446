-- What is in a list, and passes a test.
use Rattle.std.proofs.Common.{◌≡◌, inl, inr, ℕ, zero, suc, Bool, true, ◌||◌, List, [], ◌∷◌, flat_map, filter, slice_get, Some, Result, Ok, Err, IfOk, OnOk, refl, sym, ap, subst, ◌∙◌, cond}
use Rattle.std.specs.List.{list_any}
use Rattle.std.proofs.lemmas.List.Folds.{list_any-append}
use Rattle.rw_scope_graph.proofs.Passing.{true_or_false, or_left, or_right, either}
use Rattle.rw_scope_rules.proofs.Basics.{In}

module _ {X : Type 0} where
  pub any_in : (p : X → Bool) (xs : List X) (x : X) → In x xs → p x ≡ true → list_any p xs ≡ true
  any_in p [] x i e = absurd i
  any_in p (y ∷ ys) x (inl s) e = or_left (p y) (list_any p ys) (ap p (sym s) ∙ e)
  any_in p (y ∷ ys) x (inr r) e = or_right (p y) (list_any p ys) (any_in p ys x r e)

  pub in_any : (p : X → Bool) (xs : List X) → list_any p xs ≡ true → (x : X) × In x xs × (p x ≡ true)
  in_any p [] e = absurd (cc)
  in_any p (x ∷ xs) e = elim (either (p x) (list_any p xs) e) [
    | inl l ↦ (x, inl refl, l)
    | inr r ↦ let k = in_any p xs r in (k.0, inr k.1, k.2)
  ]

  pub in_filter : (p : X → Bool) (xs : List X) (x : X) → In x xs → p x ≡ true → In x (filter p xs)
  in_filter p [] x i e = absurd i
  in_filter p (y ∷ ys) x i e = elim i [
    | inl s ↦ let here : p y ≡ true = ap p (sym s) ∙ e in subst (In x) (sym (ap (λ b. cond b (y ∷ filter p ys) (filter p ys)) here)) (inl s)
    | inr r ↦ elim (true_or_false (p y)) [
      | inl h ↦ subst (In x) (sym (ap (λ b. cond b (y ∷ filter p ys) (filter p ys)) h)) (inr (in_filter p ys x r e))
      | inr h ↦ subst (In x) (sym (ap (λ b. cond b (y ∷ filter p ys) (filter p ys)) h)) (in_filter p ys x r e)
    ]
  ]

  pub filter_in : (p : X → Bool) (xs : List X) (x : X) → In x (filter p xs) → In x xs × (p x ≡ true)
  filter_in p [] x i = absurd i
  filter_in p (y ∷ ys) x i = elim (true_or_false (p y)) [
    | inl h ↦ elim (cut (ap (λ b. cond b (y ∷ filter p ys) (filter p ys)) h) i) [
      | inl s ↦ (inl s, ap p s ∙ h)
      | inr r ↦ let k = filter_in p ys x r in (inr k.0, k.1)
    ]
    | inr h ↦ let k = filter_in p ys x (subst (In x) (ap (λ b. cond b (y ∷ filter p ys) (filter p ys)) h) i) in (inr k.0, k.1)
  ]
    where
      cut : filter p (y ∷ ys) ≡ y ∷ filter p ys → In x (filter p (y ∷ ys)) → In x (y ∷ filter p ys)
      cut e j = subst (In x) e j

  pub filter_all : (p : X → Bool) (xs : List X) → ((x : X) → In x xs → p x ≡ true) → filter p xs ≡ xs
  filter_all p [] h = refl
  filter_all p (x ∷ xs) h = ap (λ b. cond b (x ∷ filter p xs) (filter p xs)) (h x (inl refl)) ∙ ap (λ ys. x ∷ ys) (filter_all p xs (λ y r. h y (inr r)))

  pub at_in : (xs : List X) (i : ℕ) (x : X) → slice_get xs i ≡ Some x → In x xs
  at_in [] i x e = absurd (cc)
  at_in (y ∷ ys) zero x e = let s : y ≡ x = cc in inl (sym s)
  at_in (y ∷ ys) (suc i) x e = inr (at_in ys i x e)

  pub in_at : (xs : List X) (x : X) → In x xs → (i : ℕ) × (slice_get xs i ≡ Some x)
  in_at [] x h = absurd h
  in_at (y ∷ ys) x (inl s) = (0, ap Some (sym s))
  in_at (y ∷ ys) x (inr r) = let k = in_at ys x r in (suc k.0, k.1)

pub any_flat : {X Y : Type 0} (p : Y → Bool) (f : X → List Y) (xs : List X) → list_any p (flat_map f xs) ≡ list_any (λ x. list_any p (f x)) xs
any_flat p f [] = refl
any_flat p f (x ∷ xs) = list_any-append p (f x) (flat_map f xs) ∙ ap (λ b. list_any p (f x) || b) (any_flat p f xs)

pub in_flat : {X Y : Type 0} (p : Y → Bool) (f : X → List Y) (xs : List X) (x : X) → In x xs → list_any p (f x) ≡ true → list_any p (flat_map f xs) ≡ true
in_flat p f xs x i e = any_flat p f xs ∙ any_in (λ z. list_any p (f z)) xs x i e

pub flat_in : {X Y : Type 0} (p : Y → Bool) (f : X → List Y) (xs : List X) → list_any p (flat_map f xs) ≡ true → (x : X) × In x xs × (list_any p (f x) ≡ true)
flat_in p f xs e = in_any (λ z. list_any p (f z)) xs (sym (any_flat p f xs) ∙ e)

pub on_ok : {T E : Type 0} {P Q : T → Type 0} (r : Result T E) → ((x : T) → P x → Q x) → IfOk r P → IfOk r Q
on_ok (Ok x) f h = f x h
on_ok (Err e) f h = h

pub after_ok : {T E : Type 0} {P Q : Type 0} (r : Result T E) → (P → Q) → OnOk r P → OnOk r Q
after_ok (Ok x) f h = f h
after_ok (Err e) f h = h
