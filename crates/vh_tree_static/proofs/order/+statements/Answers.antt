-- Of an `if` and of a branch, by their parts.
use Rattle.vh_tree.specs.StaticRules.{uses_earlier}
use Rattle.vh_tree_static.specs.Rules.{tests_early, usable_before}
use Rattle.rw_base_tables.specs.Tables.{known_in}
use Rattle.vh_tree_static.proofs.Statements.{other_kept, branch_broken, branch_kept}
use Rattle.vh_tree_static.proofs.order.+statements.Goals as goal

pub branch_is_early-returns-then-tests_are_early : goal.branch_is_early-returns-then-tests_are_early
branch_is_early-returns-then-tests_are_early t c =
    branch_kept (λ x e. uses_earlier (usable_before (known_in c.args.later.now)) e) (tests_early (known_in c.args.later.now)) c.args.branch.now c.as_slice.result.now c.as_slice-then-tests_are_early.result.now c.tests_are_early.result c.stmts_are_early.result
    c.as_slice.ensures c.as_slice-then-tests_are_early.ensures c.tests_are_early.ensures c.if-tests_are_early.true c.stmts_are_early.ensures

pub stmt_is_early-returns-then-branches_are_early : goal.stmt_is_early-returns-then-branches_are_early
stmt_is_early-returns-then-branches_are_early t c =
    other_kept (λ x e. uses_earlier (usable_before (known_in c.args.later.now)) e) (tests_early (known_in c.args.later.now)) c.args.stmt.now c.in-If.branches c.as_slice.result.now c.in-If.other c.as_slice-then-branches_are_early.result.now c.branches_are_early.result c.stmts_are_early.result
    c.in-If.is c.as_slice.ensures c.as_slice-then-branches_are_early.ensures c.branches_are_early.ensures c.if-branches_are_early.true c.stmts_are_early.ensures

pub stmt_is_early-returns-else-branches_are_early : goal.stmt_is_early-returns-else-branches_are_early
stmt_is_early-returns-else-branches_are_early t c =
    branch_broken (λ x e. uses_earlier (usable_before (known_in c.args.later.now)) e) (tests_early (known_in c.args.later.now)) c.args.stmt.now c.in-If.branches c.as_slice.result.now c.in-If.other c.branches_are_early.result c.in-If.is c.as_slice.ensures c.branches_are_early.ensures c.if-branches_are_early.false
