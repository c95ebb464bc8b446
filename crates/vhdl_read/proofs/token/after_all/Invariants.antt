use Rattle.std.proofs.Common.{◌≡◌, drop}
use Rattle.vh_tree_reading.specs.ReadDesign.{after_all}
use Rattle.vhdl_read.proofs.token.after_all.Given as goal

abbrev pub invariant-loop-mark : goal.invariant-loop-mark
invariant-loop-mark l = after_all (drop l.mark-index l.wanted) l.rest ≡ after_all l.wanted l.tokens
