-- All that were passed are named well.
use Rattle.std.proofs.Common.{◌≡◌, drop}
use Rattle.std.specs.List.{list_all}
use Rattle.vh_tree_static.specs.Rules.{tests_well}
use Rattle.rw_base_tables.specs.Tables.{known_in}
use Rattle.vh_tree_static.proofs.names.tests_are_named.Given as goal

abbrev pub invariant-loop-test : goal.invariant-loop-test
invariant-loop-test l = list_all (tests_well (known_in l.arities) (known_in l.vars) l.in_process) (drop l.test-index l.tests) ≡ list_all (tests_well (known_in l.arities) (known_in l.vars) l.in_process) l.tests
