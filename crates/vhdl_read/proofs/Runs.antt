-- Runs of bytes of a kind.
use Rattle.std.proofs.Common.{◌≡◌, ℕ, suc, ◌+◌, Bool, true, false, cond, List, [], ◌∷◌, take, drop, refl, ap, ◌∙◌, arith}
use Rattle.std.specs.List.{prefix_len}
use Rattle.vh_tree_reading.specs.Scan.{run, behind}

one_more : {A : Type 0} (x : A) (n : ℕ) (xs : List A) → take (1 + n) (x ∷ xs) ≡ x ∷ take n xs
one_more x n xs = let e : 1 + n ≡ suc n = omega arith in rw e

one_past : {A : Type 0} (x : A) (n : ℕ) (xs : List A) → drop (1 + n) (x ∷ xs) ≡ drop n xs
one_past x n xs = let e : 1 + n ≡ suc n = omega arith in rw e

pub run_is : (c : ℕ → Bool) (bs : List ℕ) → take (prefix_len c bs) bs ≡ run c bs
run_is c [] = refl
run_is c (b ∷ bs) = elim (c b) as (λ v. take (cond v (1 + prefix_len c bs) 0) (b ∷ bs) ≡ cond v (b ∷ run c bs) []) [ true ↦ one_more b (prefix_len c bs) bs ∙ ap (λ z. b ∷ z) (run_is c bs) | false ↦ refl ]

pub behind_is : (c : ℕ → Bool) (bs : List ℕ) → drop (prefix_len c bs) bs ≡ behind c bs
behind_is c [] = refl
behind_is c (b ∷ bs) = elim (c b) as (λ v. drop (cond v (1 + prefix_len c bs) 0) (b ∷ bs) ≡ cond v (behind c bs) (b ∷ bs)) [ true ↦ one_past b (prefix_len c bs) bs ∙ behind_is c bs | false ↦ refl ]
