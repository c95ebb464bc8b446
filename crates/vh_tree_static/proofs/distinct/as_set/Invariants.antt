-- Exactly the names from here on were seen, and they are distinct.
use Rattle.std.proofs.Common.{◌≡◌, ◌≤◌, true, drop, length, is_some}
use Rattle.vh_tree.specs.Bits.{Bytes, is_among}
use Rattle.vh_tree.specs.StaticRules.{are_distinct}
use Rattle.rw_base_tables.specs.Tables.{known_in}
use Rattle.vh_tree_static.proofs.distinct.as_set.Given as goal

abbrev pub invariant-loop-at : goal.invariant-loop-at
invariant-loop-at l = record {
  within : l.at ≤ length l.names;
  seen : (x : Bytes) → is_some (known_in l.seen x) ≡ is_among x (drop l.at l.names);
  distinct : are_distinct (drop l.at l.names) ≡ true;
}

abbrev pub decreases-loop-at : goal.decreases-loop-at
decreases-loop-at l = l.at
