-- All that were passed are early.
use Rattle.std.proofs.Common.{◌≡◌, drop}
use Rattle.std.specs.List.{list_all}
use Rattle.vh_tree_static.specs.Rules.{tests_early}
use Rattle.rw_base_tables.specs.Tables.{known_in}
use Rattle.vh_tree_static.proofs.order.tests_are_early.Given as goal

abbrev pub invariant-loop-test : goal.invariant-loop-test
invariant-loop-test l = list_all (tests_early (known_in l.later)) (drop l.test-index l.tests) ≡ list_all (tests_early (known_in l.later)) l.tests
