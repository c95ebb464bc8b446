-- All that were passed are named well.
use Rattle.std.proofs.Common.{◌≡◌, drop}
use Rattle.std.specs.List.{list_all}
use Rattle.vh_tree_static.specs.Rules.{assigns_well, branch_keeps, tests_well}
use Rattle.rw_base_tables.specs.Tables.{known_in}
use Rattle.vh_tree_static.specs.Named.{stmt_well}
use Rattle.vh_tree_static.proofs.names.+statements.Given as goal

abbrev pub invariant-stmts_are_named-loop-stmt : goal.invariant-stmts_are_named-loop-stmt
invariant-stmts_are_named-loop-stmt l =
    let well = stmt_well (known_in l.arities) (known_in l.vars) (known_in l.assigned) l.in_process in
    list_all well (drop l.stmt-index l.stmts) ≡ list_all well l.stmts

abbrev pub invariant-branches_are_named-loop-branch : goal.invariant-branches_are_named-loop-branch
invariant-branches_are_named-loop-branch l =
    let well = branch_keeps (assigns_well (known_in l.arities) (known_in l.vars) (known_in l.assigned)) (tests_well (known_in l.arities) (known_in l.vars) l.in_process) in
    list_all well (drop l.branch-index l.branches) ≡ list_all well l.branches
