-- What is left fits exactly where all does, and is followed by the same functions.
use Rattle.std.proofs.Common.{◌≡◌, drop}
use Rattle.vh_tree.specs.StaticRules.{items_fit, shapes_after}
use Rattle.vh_tree_static.specs.Measures.{known_by}
use Rattle.vh_tree_static.proofs.fit.all_items_fit.Given as goal

abbrev pub invariant-loop-item : goal.invariant-loop-item
invariant-loop-item l = record {
  fits : items_fit (known_by l.callees) (drop l.item-index l.items) ≡ items_fit (known_by l.fn.callees) l.items;
  shapes : shapes_after (known_by l.callees) (drop l.item-index l.items) ≡ shapes_after (known_by l.fn.callees) l.items;
}
