-- What was added, before what is to be added, is the whole.
use Rattle.std.proofs.Common.{◌≡◌, ◌++◌, drop}
use Rattle.vh_tree.specs.StaticRules.{item_names}
use Rattle.vh_tree_static.proofs.distinct.add_items.Given as goal

abbrev pub invariant-loop-item : goal.invariant-loop-item
invariant-loop-item l = l.names.items ++ item_names (drop l.item-index l.items) ≡ l.fn.names.items ++ item_names l.items
