-- Small tools on tests, options and lists.
use Rattle.std.proofs.Common.{◌≡◌, ℕ, suc, ◌+◌, Bool, true, false, not, cond, ◌&&◌, ◌||◌, List, ◌∷◌, take, drop, Option, Some, None, refl, sym, arith, ◌⊎◌, inl, inr, nat_eq}
use Rattle.std.proofs.lemmas.Bool.Decides.{nat_tests}
use Rattle.rw_lex.specs.Scan.{further}

pub both : (a b : Bool) → (a && b) ≡ true → (a ≡ true) × (b ≡ true)
both true b h = (refl, h)
both false b h = absurd (cc h)

pub neither : (a b : Bool) → (a || b) ≡ false → (a ≡ false) × (b ≡ false)
neither true b e = absurd (cc)
neither false b e = (refl, e)

pub is_not : (a : Bool) → not a ≡ true → a ≡ false
is_not true e = absurd (cc)
is_not false e = refl

pub chosen : {A : Type 0} (b : Bool) (x y z : A) → cond b x y ≡ z → ((b ≡ true) × (x ≡ z)) ⊎ ((b ≡ false) × (y ≡ z))
chosen true x y z e = inl (refl, e)
chosen false x y z e = inr (refl, e)

pub some_is : {A : Type 0} (a b : A) → Some a ≡ Some b → a ≡ b
some_is a b e = cc

pub same_number : (a b : ℕ) → nat_eq a b ≡ true → a ≡ b
same_number a b e = grind (arith, nat_tests)

-- what is found further on
pub further_some : (n k : ℕ) (found : Option ℕ) → further n found ≡ Some k → (j : ℕ) × (found ≡ Some j) × (k ≡ n + j)
further_some n k None e = absurd (cc)
further_some n k (Some j) e = (j, refl, sym (some_is (n + j) k e))

pub take_one : {A : Type 0} (x : A) (n : ℕ) (xs : List A) → take (1 + n) (x ∷ xs) ≡ x ∷ take n xs
take_one x n xs = let e : 1 + n ≡ suc n = omega arith in rw e

pub drop_one : {A : Type 0} (x : A) (n : ℕ) (xs : List A) → drop (1 + n) (x ∷ xs) ≡ drop n xs
drop_one x n xs = let e : 1 + n ≡ suc n = omega arith in rw e
