-- Bits written to their place.
use Rattle.std.proofs.Common.{◌≡◌, ℕ, ◌+◌, ◌<◌, ◌≤◌, min, [], ◌∷◌, ◌++◌, length, take, drop, slice_set, slice_index_or, arith, ap, ◌∙◌, sym}
use Rattle.std.proofs.lemmas.Grind.{common_steps}
use Rattle.std.proofs.lemmas.List.{take-append-drop, take-set, drop-set}
use Rattle.vh_tree.specs.Bits.{Bits}
use Rattle.vhdl_cycle_flat.specs.Flat.{written}
use Rattle.rw_base.specs.declared.bit.Bit9.{Bit9}
use Rattle.rw_base.specs.declared.bit.Bit9.TheVariants.{U}

set_written : (xs : Bits) (i : ℕ) (y : Bit9) → i < length xs → slice_set xs i y ≡ take i xs ++ (y ∷ drop (i + 1) xs)
set_written xs i y inside =
    sym (take-append-drop i (slice_set xs i y)) ∙ (ap (λ (first : Bits). first ++ drop i (slice_set xs i y)) (take-set xs i y) ∙ ap (λ (rest : Bits). take i xs ++ rest) (drop-set xs i y inside))

one_written : (frame : Bits) (from : ℕ) (b : Bit9) → from < length frame → slice_set frame from b ≡ written from (b ∷ []) frame
one_written frame from b inside = let set = set_written frame from b inside in grind (arith, common_steps, set)

-- one bit written at its place sets it
pub bit_written : (frame bits : Bits) (from start : ℕ) → start ≡ min (length frame) from → start < length frame → 1 ≤ length bits → length bits < 2 → slice_set frame start (slice_index_or bits 0 U) ≡ written from bits frame
bit_written frame [] from start at inside some one = absurd (omega arith)
bit_written frame (b ∷ []) from start at inside some one = let same : start ≡ from = omega arith in rw same (one_written frame from b (rw (sym same) inside))
bit_written frame (b ∷ (c ∷ bits)) from start at inside some one = absurd (omega arith)
