use Rattle.std.proofs.Common.{◌≡◌, take, map}
use Rattle.vh_tree_reading.specs.Scan.{bit_at}
use Rattle.vhdl_read.proofs.scan.bits.Given as goal

abbrev pub invariant-loop-b : goal.invariant-loop-b
invariant-loop-b l = l.all ≡ map bit_at (take l.b-index l.letters)
