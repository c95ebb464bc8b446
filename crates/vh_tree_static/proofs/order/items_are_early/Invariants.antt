-- The functions from here on are known, and each uses none of those from it on.
use Rattle.std.proofs.Common.{◌≡◌, ◌≤◌, true, drop, length, is_some, map}
use Rattle.vh_tree.specs.Bits.{Bytes, is_among}
use Rattle.vh_tree.specs.StaticRules.{all_use_earlier, functions_of}
use Rattle.vh_tree.specs.declared.function.Function.{Function}
use Rattle.rw_base_tables.specs.Tables.{known_in}
use Rattle.vh_tree_static.proofs.order.items_are_early.Given as goal

abbrev pub invariant-loop-at : goal.invariant-loop-at
invariant-loop-at l = record {
  within : l.at ≤ length l.items;
  names : (x : Bytes) → is_some (known_in l.later x) ≡ is_among x (map (λ (g : Function). g.name) (functions_of (drop l.at l.items)));
  early : all_use_earlier (functions_of (drop l.at l.items)) ≡ true;
}

abbrev pub decreases-loop-at : goal.decreases-loop-at
decreases-loop-at l = l.at
