-- What was added, before what is to be added, is the whole.
use Rattle.std.proofs.Common.{◌≡◌, ◌++◌, drop}
use Rattle.vh_tree.specs.StaticRules.{declared_signals}
use Rattle.vh_tree_static.proofs.vars.add_signals.Given as goal

abbrev pub invariant-loop-item : goal.invariant-loop-item
invariant-loop-item l = l.vars.items ++ declared_signals (drop l.item-index l.items) ≡ l.fn.vars.items ++ declared_signals l.items
