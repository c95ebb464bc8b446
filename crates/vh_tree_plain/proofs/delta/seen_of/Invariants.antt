-- What was seen, before what is to be seen, is the whole.
use Rattle.std.proofs.Common.{◌≡◌, ◌++◌, drop}
use Rattle.vh_tree.specs.DeltaCycle.{seen}
use Rattle.vh_tree_plain.proofs.delta.seen_of.Given as goal

abbrev pub invariant-loop-wire : goal.invariant-loop-wire
invariant-loop-wire l = l.store.items ++ seen (drop l.wire-index l.wires) ≡ seen l.wires
