-- Of an `if` and of a branch, by their parts.
use Rattle.std.proofs.Common.{Bool, OnOk, subst}
use Rattle.std.proofs.lemmas.Result.{on_ok_weaker}
use Rattle.vh_tree.specs.Bits.{Bytes}
use Rattle.vh_tree_static.specs.Drivers.{Assigns}
use Rattle.rw_base_tables.specs.Tables.{known_in}
use Rattle.vh_tree_static.proofs.Driven.{in_branch, in_choice}
use Rattle.vh_tree_static.proofs.drivers.+statements.Goals as goal

pub note_branch-returns : goal.note_branch-returns
note_branch-returns t c =
    subst (λ (assigned : Bytes → Bool). OnOk c.note_stmts.result (Assigns c.args.place assigned (known_in c.args.drivers.now) (known_in c.note_stmts.new.drivers)))
    (in_branch c.args.branch.now c.as_slice.result.now c.as_slice.ensures) c.note_stmts.ensures

pub note_stmt-returns-in_ok-note_branches-in-If : goal.note_stmt-returns-in_ok-note_branches-in-If
note_stmt-returns-in_ok-note_branches-in-If t c =
    on_ok_weaker c.note_stmts.result
    (λ h x. in_choice c.args.place x c.args.stmt.now c.in-If.branches c.as_slice.result.now c.in-If.other c.as_slice-in-If.result.now (known_in c.args.drivers.now x) (known_in c.note_branches.new.drivers x) (known_in c.note_stmts.new.drivers x)
    c.in-If.is c.as_slice.ensures c.as_slice-in-If.ensures (c.in_ok-note_branches-in-If.ensures x) (h x))
    c.note_stmts.ensures
