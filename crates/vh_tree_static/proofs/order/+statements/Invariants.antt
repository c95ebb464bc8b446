-- All that were passed are early.
use Rattle.std.proofs.Common.{◌≡◌, drop}
use Rattle.std.specs.List.{list_all}
use Rattle.vh_tree.specs.StaticRules.{stmt_uses_earlier, uses_earlier}
use Rattle.vh_tree_static.specs.Rules.{branch_keeps, tests_early, usable_before}
use Rattle.rw_base_tables.specs.Tables.{known_in}
use Rattle.vh_tree_static.proofs.order.+statements.Given as goal

abbrev pub invariant-stmts_are_early-loop-stmt : goal.invariant-stmts_are_early-loop-stmt
invariant-stmts_are_early-loop-stmt l = list_all (stmt_uses_earlier (usable_before (known_in l.later))) (drop l.stmt-index l.stmts) ≡ list_all (stmt_uses_earlier (usable_before (known_in l.later))) l.stmts

abbrev pub invariant-branches_are_early-loop-branch : goal.invariant-branches_are_early-loop-branch
invariant-branches_are_early-loop-branch l =
    let keeps = branch_keeps (λ x e. uses_earlier (usable_before (known_in l.later)) e) (tests_early (known_in l.later)) in
    list_all keeps (drop l.branch-index l.branches) ≡ list_all keeps l.branches
