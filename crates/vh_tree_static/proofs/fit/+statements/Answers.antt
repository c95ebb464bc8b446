-- Of an `if` and of a branch, by their parts.
use Rattle.vh_tree_static.specs.Measures.{assigns_fit, tests_fit}
use Rattle.rw_base_tables.specs.Tables.{known_in}
use Rattle.vh_tree_static.proofs.Statements.{other_kept, branch_broken, branch_kept}
use Rattle.vh_tree_static.proofs.fit.+statements.Goals as goal

pub branch_fits-returns-then-all_tests_fit : goal.branch_fits-returns-then-all_tests_fit
branch_fits-returns-then-all_tests_fit t c =
    branch_kept (assigns_fit (known_in c.args.vars.now) c.args.callees.now) (tests_fit (known_in c.args.vars.now) c.args.callees.now) c.args.branch.now c.as_slice.result.now c.as_slice-then-all_tests_fit.result.now c.all_tests_fit.result c.stmts_fit.result
    c.as_slice.ensures c.as_slice-then-all_tests_fit.ensures c.all_tests_fit.ensures c.if-all_tests_fit.true c.stmts_fit.ensures

pub one_fits-returns-then-branches_fit : goal.one_fits-returns-then-branches_fit
one_fits-returns-then-branches_fit t c =
    other_kept (assigns_fit (known_in c.args.vars.now) c.args.callees.now) (tests_fit (known_in c.args.vars.now) c.args.callees.now) c.args.stmt.now c.in-If.branches c.as_slice.result.now c.in-If.other c.as_slice-then-branches_fit.result.now c.branches_fit.result c.stmts_fit.result
    c.in-If.is c.as_slice.ensures c.as_slice-then-branches_fit.ensures c.branches_fit.ensures c.if-branches_fit.true c.stmts_fit.ensures

pub one_fits-returns-else-branches_fit : goal.one_fits-returns-else-branches_fit
one_fits-returns-else-branches_fit t c =
    branch_broken (assigns_fit (known_in c.args.vars.now) c.args.callees.now) (tests_fit (known_in c.args.vars.now) c.args.callees.now) c.args.stmt.now c.in-If.branches c.as_slice.result.now c.in-If.other c.branches_fit.result c.in-If.is c.as_slice.ensures c.branches_fit.ensures c.if-branches_fit.false
