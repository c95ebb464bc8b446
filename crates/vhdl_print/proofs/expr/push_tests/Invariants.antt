-- What is appended so far, and what is to come, is the whole.
use Rattle.std.proofs.Common.{◌≡◌, ◌++◌, map, drop}
use Rattle.vh_tree.specs.declared.token.Mark.TheVariants as m
use Rattle.vh_tree.specs.Canonical.{each_after, separated, spelled, test_tokens}
use Rattle.vhdl_print.proofs.expr.push_tests.Given as goal

abbrev pub invariant-loop-test : goal.invariant-loop-test
invariant-loop-test l =
    l.text.items ++ spelled (each_after m.And (map test_tokens (drop l.test-index l.others))) ≡ l.fn.text.items ++ spelled (separated m.And (map test_tokens l.tests))
