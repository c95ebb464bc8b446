-- What was added, before what is to be added, is the whole.
use Rattle.std.proofs.Common.{◌≡◌, ◌++◌, drop}
use Rattle.vh_tree.specs.Bench.{signals_of}
use Rattle.vh_tree_plain.proofs.changes.add_signals.Given as goal

abbrev pub invariant-loop-item : goal.invariant-loop-item
invariant-loop-item l = l.wires.items ++ signals_of (drop l.item-index l.items) ≡ l.fn.wires.items ++ signals_of l.items
