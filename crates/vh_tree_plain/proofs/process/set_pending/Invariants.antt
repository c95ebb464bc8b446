-- The wires that were passed have other names.
use Rattle.std.proofs.Common.{◌≡◌, ◌++◌, take, drop}
use Rattle.vh_tree.specs.DeltaCycle.{put}
use Rattle.vh_tree_plain.proofs.process.set_pending.Given as goal

abbrev pub invariant-loop-at : goal.invariant-loop-at
invariant-loop-at l = (l.wires.items ≡ l.fn.wires.items) × (put l.name l.value l.wires.items ≡ take l.at l.wires.items ++ put l.name l.value (drop l.at l.wires.items))
