-- Each call goes one level deeper; what a loop has done, before what it is to do, is the whole.
use Rattle.std.proofs.Common.{◌≡◌, ◌++◌, drop, map}
use Rattle.std.specs.List.{list_all, flat_map}
use Rattle.vh_tree.specs.declared.stmt.Test.{Test}
use Rattle.vh_tree.specs.declared.expr.VExpr.{VExpr}
use Rattle.vh_tree.specs.Functions.{Store, expr_of, scope_in, calls_of, function_world, test_holds, stmt_of, stmts_of, branch_of, first_taken, in_order}
use Rattle.vh_tree_plain.proofs.expr.+plain.Given as goal

abbrev pub decreases-all_hold : goal.decreases-all_hold
decreases-all_hold l = l.levels

abbrev pub decreases-append_call : goal.decreases-append_call
decreases-append_call l = l.levels

abbrev pub decreases-append_function : goal.decreases-append_function
decreases-append_function l = l.levels

abbrev pub decreases-append_last : goal.decreases-append_last
decreases-append_last l = l.levels

abbrev pub decreases-append_name : goal.decreases-append_name
decreases-append_name l = l.levels

abbrev pub decreases-append_value : goal.decreases-append_value
decreases-append_value l = l.levels

abbrev pub decreases-holds : goal.decreases-holds
decreases-holds l = l.levels

abbrev pub decreases-run : goal.decreases-run
decreases-run l = l.levels

abbrev pub decreases-run_all : goal.decreases-run_all
decreases-run_all l = l.levels

abbrev pub decreases-values : goal.decreases-values
decreases-values l = l.levels

abbrev pub invariant-all_hold-loop-test : goal.invariant-all_hold-loop-test
invariant-all_hold-loop-test l =
    let p = λ (t : Test). test_holds Store t (function_world (calls_of l.items)) l.store in
    list_all p (drop l.test-index l.tests) ≡ list_all p l.tests

abbrev pub invariant-append_value-loop-part : goal.invariant-append_value-loop-part
invariant-append_value-loop-part l =
    let s = scope_in (calls_of l.items) l.store in
    l.out.items ++ flat_map (λ p. p s) (map expr_of (drop l.part-index l.part-items)) ≡ l.fn.out.items ++ expr_of l.e s

abbrev pub invariant-run-loop-branch : goal.invariant-run-loop-branch
invariant-run-loop-branch l =
    let w = function_world (calls_of l.items) in
    first_taken Store (map (branch_of Store) (drop l.branch-index l.branch-items)) (stmts_of Store l.other) w l.store.items ≡ stmt_of Store l.stmt w l.fn.store.items

abbrev pub invariant-run_all-loop-stmt : goal.invariant-run_all-loop-stmt
invariant-run_all-loop-stmt l =
    let w = function_world (calls_of l.items) in
    in_order Store (map (stmt_of Store) (drop l.stmt-index l.body)) w l.store.items ≡ stmts_of Store l.body w l.fn.store.items

abbrev pub invariant-values-loop-arg : goal.invariant-values-loop-arg
invariant-values-loop-arg l =
    let f = λ (a : VExpr). expr_of a (scope_in (calls_of l.items) l.store) in
    l.values.items ++ map f (drop l.arg-index l.args) ≡ map f l.args
