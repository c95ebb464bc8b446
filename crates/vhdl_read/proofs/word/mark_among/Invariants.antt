use Rattle.std.proofs.Common.{◌≡◌, drop}
use Rattle.vh_tree_reading.specs.Scan.{mark_in}
use Rattle.vhdl_read.proofs.word.mark_among.Given as goal

abbrev pub invariant-loop-mark : goal.invariant-loop-mark
invariant-loop-mark l = mark_in (drop l.mark-index l.marks) l.bytes ≡ mark_in l.marks l.bytes
