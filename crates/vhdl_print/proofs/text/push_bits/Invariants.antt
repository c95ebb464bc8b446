-- The letters of the bits so far are appended.
use Rattle.std.proofs.Common.{◌≡◌, ◌∷◌, ◌++◌, map, take}
use Rattle.vh_tree.specs.VToken.{letter}
use Rattle.vhdl_print.proofs.text.push_bits.Given as goal

abbrev pub invariant-loop-bit : goal.invariant-loop-bit
invariant-loop-bit l =
    l.text.items ≡ l.fn.text.items ++ 34 ∷ map letter (take l.bit-index l.bits)
