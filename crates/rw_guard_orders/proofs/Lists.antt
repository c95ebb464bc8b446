-- Facts of each of a list; numbers in a list.
use Rattle.std.proofs.Common.{◌≡◌, ℕ, suc, ◌<◌, List, [], ◌∷◌, ◌++◌, Bool, true, false, ◌||◌, nat_eq, ◌⊎◌, inl, inr, refl, arith, sym, subst}
use Rattle.std.specs.List.{AllByRecursion, list_any}
use Rattle.std.proofs.lemmas.Bool.{cases_lt}
use Rattle.std.proofs.lemmas.Bool.Decides.{nat_tests}
use Rattle.rw_guard_rules.specs.Rules.{AnyByRecursion}

pub every_map : {A : Type 0} (P Q : A → Type 0) → ((a : A) → P a → Q a) → (xs : List A) → AllByRecursion P xs → AllByRecursion Q xs
every_map P Q f [] h = tt
every_map P Q f (x ∷ xs) h = (f x h.0, every_map P Q f xs h.1)

pub every_both : {A : Type 0} (P Q : A → Type 0) (xs : List A) → AllByRecursion P xs → AllByRecursion Q xs → AllByRecursion (λ a. P a × Q a) xs
every_both P Q [] h k = tt
every_both P Q (x ∷ xs) h k = ((h.0, k.0), every_both P Q xs h.1 k.1)

pub every_parts : {A : Type 0} (P : A → Type 0) (xs ys : List A) → AllByRecursion P (xs ++ ys) → AllByRecursion P xs × AllByRecursion P ys
every_parts P [] ys h = (tt, h)
every_parts P (x ∷ xs) ys h = let k = every_parts P xs ys h.1 in ((h.0, k.0), k.1)

pub any_map : {A : Type 0} (P Q : A → Type 0) → ((a : A) → P a → Q a) → (xs : List A) → AnyByRecursion P xs → AnyByRecursion Q xs
any_map P Q f [] h = absurd h
any_map P Q f (x ∷ xs) (inl h) = inl (f x h)
any_map P Q f (x ∷ xs) (inr h) = inr (any_map P Q f xs h)

pub one_of : {A : Type 0} (P Q : A → Type 0) (xs : List A) → AllByRecursion P xs → AnyByRecursion Q xs → (a : A) × P a × Q a
one_of P Q [] h k = absurd k
one_of P Q (x ∷ xs) h (inl k) = (x, h.0, k)
one_of P Q (x ∷ xs) h (inr k) = one_of P Q xs h.1 k

pub either_true : (a b : Bool) → (a || b) ≡ true → (a ≡ true) ⊎ (b ≡ true)
either_true true b e = inl refl
either_true false b e = inr e

pub true_or_false : (b : Bool) → (b ≡ true) ⊎ (b ≡ false)
true_or_false true = inl refl
true_or_false false = inr refl

pub same_truth : (a b : Bool) → (a ≡ true → b ≡ true) → (b ≡ true → a ≡ true) → a ≡ b
same_truth true b f g = sym (f refl)
same_truth false true f g = g refl
same_truth false false f g = refl

pub is_same : (x y : ℕ) → nat_eq x y ≡ true → x ≡ y
is_same x y e = grind (arith, nat_tests)

pub below_suc : (i n : ℕ) → i < suc n → (i < n) ⊎ (i ≡ n)
below_suc i n h = elim (cases_lt i n) [ inl a ↦ inl a | inr a ↦ inr (omega arith) ]

-- one that passes
pub some_passes : (p : ℕ → Bool) (xs : List ℕ) → list_any p xs ≡ true → (x : ℕ) × (p x ≡ true) × AnyByRecursion (λ y. y ≡ x) xs
some_passes p [] e = absurd (cc)
some_passes p (x ∷ xs) e = elim (either_true (p x) (list_any p xs) e) [
  | inl h ↦ (x, h, inl refl)
  | inr h ↦ let k = some_passes p xs h in (k.0, k.1, inr k.2)
]

-- what is known of each number of a list is known of one that is in it
pub pick : (P : ℕ → Type 0) (x : ℕ) (xs : List ℕ) → AllByRecursion P xs → list_any (nat_eq x) xs ≡ true → P x
pick P x [] h e = absurd (cc)
pick P x (y ∷ ys) h e = elim (either_true (nat_eq x y) (list_any (nat_eq x) ys) e) [
  | inl s ↦ subst P (sym (is_same x y s)) h.0
  | inr r ↦ pick P x ys h.1 r
]

pub apart : (x : ℕ) (xs : List ℕ) → list_any (nat_eq x) xs ≡ false → AllByRecursion (λ y. nat_eq x y ≡ false) xs
apart x [] e = tt
apart x (y ∷ ys) e = by_first (nat_eq x y) refl e (apart x ys)
  where
    by_first : (b : Bool) → nat_eq x y ≡ b → (b || list_any (nat_eq x) ys) ≡ false → (list_any (nat_eq x) ys ≡ false → AllByRecursion (λ z. nat_eq x z ≡ false) ys) → AllByRecursion (λ z. nat_eq x z ≡ false) (y ∷ ys)
    by_first true s f k = absurd (cc)
    by_first false s f k = (s, k f)
