use Rattle.std.proofs.Common.{◌≡◌, ◌≤◌, drop}
use Rattle.vh_tree_reading.specs.Scan.{read_on}
use Rattle.vhdl_read.proofs.word.number_value.Given as goal

abbrev pub invariant-loop-b : goal.invariant-loop-b
invariant-loop-b l = (read_on l.value (drop l.b-index l.digits) ≡ read_on 0 l.digits) × (l.value ≤ 2147483647)
