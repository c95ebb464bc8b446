-- Widths that stand at a limit give sums and greatest sums that stand at it.
use Rattle.std.proofs.Common.{◌≡◌, ℕ, zero, suc, ◌<◌, min, max, List, [], ◌∷◌, length, map, take, get_or, refl, arith, ap, ◌∙◌}
use Rattle.std.specs.Prelude.{sum_by, slice_index, All}
use Rattle.std.proofs.lemmas.List.Sums.{sum_by-cons}
use Rattle.std.proofs.lemmas.List.{get_or_default}
use Rattle.rw_core.specs.declared.types.DataTy.{DataTy}
use Rattle.rw_core.specs.Bits.{constructors_of, fields_of, width_of, greatest}
use Rattle.bit_layout.specs.Widths.{AreWidths}
use Rattle.bit_layout.proofs.Shapes.{all_head, all_tail}

-- the fields of the constructor that a loop has come to
pub fields_are : (types : List DataTy) (ty i : ℕ) (shape : List (List ℕ)) (fields : List ℕ) → shape ≡ constructors_of types ty → i < length shape → fields ≡ get_or shape i fields → fields ≡ fields_of types ty i
fields_are types ty i shape fields e h is = is ∙ get_or_default shape i fields [] h ∙ ap (λ s. get_or s i []) e

pub sum_by-capped : (cap n : ℕ) (types : List DataTy) (widths fields : List ℕ) → AreWidths cap types n widths → All (λ x. x < n) fields → min cap (sum_by (slice_index widths) fields) ≡ min cap (sum_by (width_of types) fields)
sum_by-capped cap n types widths [] are low = refl
sum_by-capped cap n types widths (x ∷ xs) are low =
    let here : slice_index widths x ≡ min cap (width_of types x) = are.each x (all_head (λ y. y < n) x xs low) in
    let h = sum_by-capped cap n types widths xs are (all_tail (λ y. y < n) x xs low) in
    omega (arith, sum_by-cons (slice_index widths) x xs, sum_by-cons (width_of types) x xs)

-- the greatest number with one more
pub greatest_more : {X : Type 0} (f : X → ℕ) (xs : List X) (i : ℕ) (d : X) → i < length xs → greatest (map f (take (suc i) xs)) ≡ max (greatest (map f (take i xs))) (f (get_or xs i d))
greatest_more f [] i d h = absurd (omega arith)
greatest_more f (x ∷ xs) zero d h = omega arith
greatest_more f (x ∷ xs) (suc i) d h = let r = greatest_more f xs i d (omega arith) in omega arith
