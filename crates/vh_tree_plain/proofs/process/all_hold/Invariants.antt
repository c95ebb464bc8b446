-- The tests that were passed hold.
use Rattle.std.proofs.Common.{◌≡◌, drop}
use Rattle.std.specs.List.{list_all}
use Rattle.vh_tree.specs.declared.stmt.Test.{Test}
use Rattle.vh_tree.specs.Functions.{calls_of, test_holds}
use Rattle.vh_tree.specs.DeltaCycle.{Wires, process_world}
use Rattle.vh_tree_plain.proofs.process.all_hold.Given as goal

abbrev pub invariant-loop-test : goal.invariant-loop-test
invariant-loop-test l =
    let p = λ (t : Test). test_holds Wires t (process_world (calls_of l.items) l.moment) l.wires in
    list_all p (drop l.test-index l.tests) ≡ list_all p l.tests
