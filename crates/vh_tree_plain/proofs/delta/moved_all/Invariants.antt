-- What was moved, before what is to be moved, is the whole.
use Rattle.std.proofs.Common.{◌≡◌, ◌++◌, drop, map}
use Rattle.vh_tree.specs.DeltaCycle.{moved}
use Rattle.vh_tree_plain.proofs.delta.moved_all.Given as goal

abbrev pub invariant-loop-wire : goal.invariant-loop-wire
invariant-loop-wire l = l.all.items ++ map moved (drop l.wire-index l.wires) ≡ map moved l.wires
