-- What was copied, before what is to be copied, is the whole.
use Rattle.std.proofs.Common.{◌≡◌, ◌++◌, drop}
use Rattle.vh_tree_plain.proofs.changes.copied_all.Given as goal

abbrev pub invariant-loop-wire : goal.invariant-loop-wire
invariant-loop-wire l = l.all.items ++ drop l.wire-index l.wires ≡ l.wires
