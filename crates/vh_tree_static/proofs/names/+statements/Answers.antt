-- Of an `if` and of a branch, by their parts.
use Rattle.vh_tree_static.specs.Rules.{assigns_well, tests_well}
use Rattle.rw_base_tables.specs.Tables.{known_in}
use Rattle.vh_tree_static.proofs.Statements.{other_kept, branch_broken, branch_kept}
use Rattle.vh_tree_static.proofs.names.+statements.Goals as goal

pub branch_is_named-returns-then-tests_are_named : goal.branch_is_named-returns-then-tests_are_named
branch_is_named-returns-then-tests_are_named t c =
    branch_kept (assigns_well (known_in c.args.arities.now) (known_in c.args.vars.now) (known_in c.args.assigned.now)) (tests_well (known_in c.args.arities.now) (known_in c.args.vars.now) c.args.in_process) c.args.branch.now c.as_slice.result.now c.as_slice-then-tests_are_named.result.now c.tests_are_named.result c.stmts_are_named.result
    c.as_slice.ensures c.as_slice-then-tests_are_named.ensures c.tests_are_named.ensures c.if-tests_are_named.true c.stmts_are_named.ensures

pub stmt_is_named-returns-then-branches_are_named : goal.stmt_is_named-returns-then-branches_are_named
stmt_is_named-returns-then-branches_are_named t c =
    other_kept (assigns_well (known_in c.args.arities.now) (known_in c.args.vars.now) (known_in c.args.assigned.now)) (tests_well (known_in c.args.arities.now) (known_in c.args.vars.now) c.args.in_process) c.args.stmt.now c.in-If.branches c.as_slice.result.now c.in-If.other c.as_slice-then-branches_are_named.result.now c.branches_are_named.result c.stmts_are_named.result
    c.in-If.is c.as_slice.ensures c.as_slice-then-branches_are_named.ensures c.branches_are_named.ensures c.if-branches_are_named.true c.stmts_are_named.ensures

pub stmt_is_named-returns-else-branches_are_named : goal.stmt_is_named-returns-else-branches_are_named
stmt_is_named-returns-else-branches_are_named t c =
    branch_broken (assigns_well (known_in c.args.arities.now) (known_in c.args.vars.now) (known_in c.args.assigned.now)) (tests_well (known_in c.args.arities.now) (known_in c.args.vars.now) c.args.in_process) c.args.stmt.now c.in-If.branches c.as_slice.result.now c.in-If.other c.branches_are_named.result c.in-If.is c.as_slice.ensures c.branches_are_named.ensures c.if-branches_are_named.false
