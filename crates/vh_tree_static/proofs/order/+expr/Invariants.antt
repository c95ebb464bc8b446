-- All that were passed are early.
use Rattle.std.proofs.Common.{◌≡◌, drop, map}
use Rattle.vh_tree.specs.StaticRules.{all_true, uses_earlier}
use Rattle.vh_tree_static.specs.Rules.{usable_before}
use Rattle.rw_base_tables.specs.Tables.{known_in}
use Rattle.vh_tree_static.proofs.order.+expr.Given as goal

abbrev pub invariant-all_are_early-loop-part : goal.invariant-all_are_early-loop-part
invariant-all_are_early-loop-part l = all_true (map (uses_earlier (usable_before (known_in l.later))) (drop l.part-index l.parts)) ≡ all_true (map (uses_earlier (usable_before (known_in l.later))) l.parts)
