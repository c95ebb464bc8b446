use Rattle.std.proofs.Common.{◌≡◌, ◌++◌, map, drop}
use Rattle.vhdl_bench.specs.Showing.{wire_of}
use Rattle.vhdl_bench.proofs.bench.put_wires.Given as goal

abbrev pub invariant-loop-bit : goal.invariant-loop-bit
invariant-loop-bit l = l.wires.items ++ map wire_of (drop l.bit-index l.bits) ≡ map wire_of l.bits
