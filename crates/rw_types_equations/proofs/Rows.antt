-- Lists of trees, one tree after the other.
use Rattle.std.proofs.Common.{◌≡◌, ℕ, suc, ◌+◌, ◌<◌, ◌≤◌, List, [], ◌∷◌, ◌++◌, append_assoc, map, drop, length, get_or, refl, sym, ◌∙◌, ap, arith}
use Rattle.std.proofs.Math.Seq.{drop-cons}
use Rattle.std.proofs.Math.ListN.{drop_of_length-le}
use Rattle.std.proofs.lemmas.List.{map-append}
use Rattle.rw_types_solving.specs.Types.{Ty}

pub drop_next : {A : Type 0} (xs : List A) (i j : ℕ) (d : A) → i < length xs → j ≡ i + 1 → d ≡ get_or xs i d → drop i xs ≡ d ∷ drop j xs
drop_next xs i j d l e p =
    let q : suc i ≡ j = omega arith in
    drop-cons xs i d l ∙ ap (λ z. z ∷ drop (suc i) xs) (sym p) ∙ ap (λ k. d ∷ drop k xs) q

pub number_next : (xs : List ℕ) (i j : ℕ) → i < length xs → j ≡ i + 1 → drop i xs ≡ get_or xs i 0 ∷ drop j xs
number_next xs i j l e = let q : suc i ≡ j = omega arith in drop-cons xs i 0 l ∙ ap (λ k. get_or xs i 0 ∷ drop k xs) q

pub mapped_next : {A B : Type 0} (f : A → B) (xs : List A) (i : ℕ) (x : A) → i < length xs → x ≡ get_or xs i x → map f (drop i xs) ≡ f x ∷ map f (drop (i + 1) xs)
mapped_next f xs i x l e = ap (map f) (drop_next xs i (i + 1) x l refl e)

pub mapped_none : {A B : Type 0} (f : A → B) (xs : List A) (i : ℕ) → length xs ≤ i → map f (drop i xs) ≡ []
mapped_none f xs i l = ap (map f) (drop_of_length-le xs {i = i} l)

-- one number more
pub one_number : (t : ℕ → Ty) (numbers new : List ℕ) (n : ℕ) (rest later whole : List Ty) (type : Ty) → new ≡ numbers ++ n ∷ [] → rest ≡ type ∷ later → type ≡ t n → map t numbers ++ rest ≡ whole → map t new ++ later ≡ whole
one_number t numbers new n rest later whole type p q e h =
    ap (λ z. map t z ++ later) p ∙ ap (λ z. z ++ later) (map-append t numbers (n ∷ [])) ∙ append_assoc (map t numbers) (t n ∷ []) later
    ∙ ap (λ z. map t numbers ++ z ∷ later) (sym e) ∙ ap (λ z. map t numbers ++ z) (sym q) ∙ h
