-- What is appended so far, and what is to come, is the whole.
use Rattle.std.proofs.Common.{◌≡◌, ◌++◌, map, drop}
use Rattle.vh_tree.specs.declared.token.Mark.TheVariants as m
use Rattle.vh_tree.specs.Canonical.{branch_tokens, each_after, separated, spelled, stmts_tokens}
use Rattle.vhdl_print.proofs.stmt.+statements.Given as goal

abbrev pub invariant-push_branches-loop-branch : goal.invariant-push_branches-loop-branch
invariant-push_branches-loop-branch l =
    l.text.items ++ spelled (each_after m.Elsif (map (branch_tokens l.side) (drop l.branch-index l.others))) ≡ l.fn.text.items ++ spelled (separated m.Elsif (map (branch_tokens l.side) l.branches))

abbrev pub invariant-push_stmts-loop-stmt : goal.invariant-push_stmts-loop-stmt
invariant-push_stmts-loop-stmt l =
    l.text.items ++ spelled (stmts_tokens l.side (drop l.stmt-index l.stmts)) ≡ l.fn.text.items ++ spelled (stmts_tokens l.side l.stmts)
