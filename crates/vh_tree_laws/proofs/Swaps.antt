-- What a relation of lists that is kept by one turn of neighbours says of every exchange.
use Rattle.std.proofs.Common.{ℕ, zero, suc, ◌<◌, List, [], ◌∷◌, get_or, set, swap, length, subst, sym, arith}
use Rattle.std.proofs.lemmas.List.Edits.{swap_is}

-- a relation that stands between a list and itself, behind a common first element, across a turn, and in a row
pub record IsTurning {A : Type 0} (R : List A → List A → Type 0) : Type 0 where
  pub same : (xs : List A) → R xs xs
  pub skip : (x : A) (xs ys : List A) → R xs ys → R (x ∷ xs) (x ∷ ys)
  pub turn : (x y : A) (xs : List A) → R (x ∷ y ∷ xs) (y ∷ x ∷ xs)
  pub on : (xs ys zs : List A) → R xs ys → R ys zs → R xs zs

module _ {A : Type 0} (R : List A → List A → Type 0) (t : IsTurning R) where
  fronted : (a : A) (xs : List A) (k : ℕ) → k < length xs → R (a ∷ xs) (get_or xs k a ∷ set xs k a)
  fronted a [] k p = absurd (omega arith)
  fronted a (b ∷ ys) zero p = t.turn a b ys
  fronted a (y ∷ ys) (suc k) p =
      t.on (a ∷ y ∷ ys) (y ∷ a ∷ ys) (get_or ys k a ∷ y ∷ set ys k a) (t.turn a y ys)
      (t.on (y ∷ a ∷ ys) (y ∷ get_or ys k a ∷ set ys k a) (get_or ys k a ∷ y ∷ set ys k a) (t.skip y (a ∷ ys) (get_or ys k a ∷ set ys k a) (fronted a ys k (omega arith))) (t.turn y (get_or ys k a) (set ys k a)))

  pub swapped : (xs : List A) (i j : ℕ) → i < length xs → j < length xs → R xs (swap xs i j)
  swapped [] i j p q = absurd (omega arith)
  swapped (d ∷ ys) zero zero p q = t.same (d ∷ ys)
  swapped (d ∷ ys) zero (suc k) p q = fronted d ys k (omega arith)
  swapped (d ∷ ys) (suc k) zero p q = fronted d ys k (omega arith)
  swapped (d ∷ ys) (suc i) (suc j) p q =
      let p' : i < length ys = omega arith in
      let q' : j < length ys = omega arith in
      t.skip d ys (set (set ys i (get_or ys j d)) j (get_or ys i d)) (subst (R ys) (sym (swap_is ys i j d p' q')) (swapped ys i j p' q'))
