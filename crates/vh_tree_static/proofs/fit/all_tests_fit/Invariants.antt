-- All that were passed fit.
use Rattle.std.proofs.Common.{◌≡◌, drop}
use Rattle.std.specs.List.{list_all}
use Rattle.vh_tree_static.specs.Measures.{tests_fit}
use Rattle.rw_base_tables.specs.Tables.{known_in}
use Rattle.vh_tree_static.proofs.fit.all_tests_fit.Given as goal

abbrev pub invariant-loop-test : goal.invariant-loop-test
invariant-loop-test l = list_all (tests_fit (known_in l.vars) l.callees) (drop l.test-index l.tests) ≡ list_all (tests_fit (known_in l.vars) l.callees) l.tests
