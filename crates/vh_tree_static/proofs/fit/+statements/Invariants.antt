-- All that were passed fit.
use Rattle.std.proofs.Common.{◌≡◌, drop}
use Rattle.std.specs.List.{list_all}
use Rattle.vh_tree.specs.StaticRules.{stmt_fits}
use Rattle.vh_tree_static.specs.Rules.{branch_keeps}
use Rattle.vh_tree_static.specs.Measures.{assigns_fit, tests_fit, widths_over}
use Rattle.rw_base_tables.specs.Tables.{known_in}
use Rattle.vh_tree_static.proofs.fit.+statements.Given as goal

abbrev pub invariant-stmts_fit-loop-stmt : goal.invariant-stmts_fit-loop-stmt
invariant-stmts_fit-loop-stmt l =
    let fits = stmt_fits (widths_over (known_in l.vars) l.callees) in
    list_all fits (drop l.stmt-index l.stmts) ≡ list_all fits l.stmts

abbrev pub invariant-branches_fit-loop-branch : goal.invariant-branches_fit-loop-branch
invariant-branches_fit-loop-branch l =
    let fits = branch_keeps (assigns_fit (known_in l.vars) l.callees) (tests_fit (known_in l.vars) l.callees) in
    list_all fits (drop l.branch-index l.branches) ≡ list_all fits l.branches
