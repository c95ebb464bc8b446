use Rattle.std.proofs.Common.{◌≡◌, ◌++◌, map, drop}
use Rattle.vh_tree.specs.VToken.{letter}
use Rattle.rw_trace.proofs.printed.push_letters.Given as goal

abbrev pub invariant-loop-bit : goal.invariant-loop-bit
invariant-loop-bit l = l.text ++ map letter (drop l.bit-index l.bits) ≡ l.fn.text ++ map letter l.bits
