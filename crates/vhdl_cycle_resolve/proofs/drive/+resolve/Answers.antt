-- Statements and rows, one more at the end, and a choice.
use Rattle.std.proofs.Common.{arith, ◌≡◌, ◌+◌, ◌++◌, List, [], ◌∷◌, map, take, sym, ap, ◌∙◌, subst}
use Rattle.std.proofs.lemmas.Grind.{common_steps}
use Rattle.vh_tree.specs.Functions.{Choice, test_holds, stmt_of as stmt_means, stmts_of as stmts_mean, branch_of as branch_means}
use Rattle.vh_tree_equations.specs.Equations.{stmt_of-If, branch_of-Branch}
use Rattle.vh_tree.specs.declared.stmt.VStmt.{VStmt}
use Rattle.vh_tree.specs.declared.stmt.Branch.{Branch}
use Rattle.vh_tree.specs.declared.stmt.Test.{Test}
use Rattle.vhdl_cycle_flat.specs.declared.process.Drive.TheFolds.{fold-roll-Row}
use Rattle.std.specs.List.{list_all}
use Rattle.vhdl_cycle_flat.specs.Delta.{Coming, Effect, Taken, drive_step, row_step, all_hold, drive_of, row_of, in_order, room_in_order, room_first}
use Rattle.vhdl_cycle_flat.specs.Names.{process_world_over}
use Rattle.vhdl_cycle_resolve.specs.Over.{slots_in, frames_in, RowsAgree}
use Rattle.vhdl_cycle_resolve.proofs.Ordered.{mapped_more}
use Rattle.vhdl_cycle_resolve.proofs.Driven.{in_order_more, room_in_order_more, room_first_more, room_first_split, agree_more, agree_taken}
use Rattle.vhdl_cycle_resolve.proofs.drive.+resolve.Goals as goal

pub resolve_drives-loop-stmt-preserved : goal.resolve_drives-loop-stmt-preserved
resolve_drives-loop-stmt-preserved t c =
    let r = c.in_ok-r.r in
    let out = map drive_of c.loop-stmt.out in
    let longer = mapped_more drive_of c.loop-stmt.out c.push.new.self r c.in_ok-push.ensures.ok in
    record {
      after = λ w n now s.
          let one = ap (λ (es : List Effect). in_order es w n now s) longer ∙ in_order_more out (drive_of r) w n now s in
          let far = c.loop-stmt.invariant.after w n now s in
          let here = c.in_ok-r.ensures.after w n now (in_order out w n now s) in
          grind (arith, common_steps, one, far, here);
      room = λ n now.
          let one = ap (λ (es : List Effect). room_in_order es n now) longer ∙ room_in_order_more out (drive_of r) n now in
          omega (arith, one, c.loop-stmt.invariant.room n now, c.in_ok-r.ensures.room n now, c.in_ok-r.ensures.raised);
      raised = omega (arith, c.in_ok-r.ensures.raised);
    }

pub resolve_drive-returns-in_ok-last-in-If-clause-after : goal.resolve_drive-returns-in_ok-last-in-If-clause-after
resolve_drive-returns-in_ok-last-in-If-clause-after t c = λ w n now s.
    let v = process_world_over (slots_in c.args.slots.now) (frames_in c.args.funs.now) n now w in
    let rows = map row_of c.in_ok-rows-in-If.rows in
    let branches = map (branch_means Coming) c.in-If.branches in
    let last = map drive_of c.in_ok-last-in-If.last in
    let other = stmts_mean Coming c.in-If.other in
    let P : List Branch → Type 0 = λ bs. RowsAgree v w n now s rows (map (branch_means Coming) bs) in
    let agree : RowsAgree v w n now s rows branches = subst P c.as_slice.ensures (c.in_ok-rows-in-If.ensures.agree w n now s) in
    let same : in_order last w n now s ≡ other v s =
    c.in_ok-last-in-If.ensures.after w n now s ∙ ap (λ (xs : List VStmt). stmts_mean Coming xs v s) c.as_slice-in-If.ensures in
    c.choice.ensures.after w n now s ∙ agree_taken v w n now s rows branches last other agree same
    ∙ sym (ap (λ x. stmt_means Coming x v s) c.in-If.is ∙ stmt_of-If Coming c.in-If.branches c.in-If.other v s)

pub resolve_drive-returns-in_ok-last-in-If-clause-room : goal.resolve_drive-returns-in_ok-last-in-If-clause-room
resolve_drive-returns-in_ok-last-in-If-clause-room t c = λ n now.
    omega (
      arith,
      c.choice.ensures.room n now,
      room_first_split (map row_of c.in_ok-rows-in-If.rows) (map drive_of c.in_ok-last-in-If.last) n now,
      c.in_ok-rows-in-If.ensures.room n now,
      c.in_ok-last-in-If.ensures.room n now,
      c.in_ok-last-in-If.ensures.raised,
    )

pub resolve_rows-loop-branch-preserved : goal.resolve_rows-loop-branch-preserved
resolve_rows-loop-branch-preserved t c =
    let r = c.in_ok-r.r in
    let out = map row_of c.loop-branch.out in
    let longer = mapped_more row_of c.loop-branch.out c.push.new.self r c.in_ok-push.ensures.ok in
    record {
      agree = λ w n now s.
          let v = process_world_over (slots_in c.args.slots.now) (frames_in c.args.funs.now) n now w in
          let m : Choice Coming = branch_means Coming c.branch-item.result in
          let so_far = map (branch_means Coming) (take c.loop-branch.branch-index c.args.branches.now) in
          let more = agree_more v w n now s out so_far (row_of r) m (c.loop-branch.invariant.agree w n now s) (c.in_ok-r.ensures.checks w n now s) (c.in_ok-r.ensures.body w n now s) in
          let right : map (branch_means Coming) (take (c.loop-branch.branch-index + 1) c.args.branches.now) ≡ so_far ++ m ∷ [] = grind (arith, common_steps) in
          let P : List Taken → List (Choice Coming) → Type 0 = RowsAgree v w n now s in
          subst (λ y. P y (map (branch_means Coming) (take (c.loop-branch.branch-index + 1) c.args.branches.now))) (sym longer) (subst (P (out ++ row_of r ∷ [])) (sym right) more);
      room = λ n now.
          let one = ap (λ (bs : List Taken). room_first bs [] n now) longer ∙ room_first_more out (row_of r) n now in
          omega (arith, one, c.loop-branch.invariant.room n now, c.in_ok-r.ensures.checks_room n now, c.in_ok-r.ensures.body_room n now, c.in_ok-r.ensures.raised);
      raised = omega (arith, c.in_ok-r.ensures.raised);
    }

pub resolve_row-returns-clause-checks : goal.resolve_row-returns-clause-checks
resolve_row-returns-clause-checks t c = λ w n now s.
    let v = process_world_over (slots_in c.args.slots.now) (frames_in c.args.funs.now) n now w in
    ap (λ (m : Taken). all_hold m.checks w n now) (fold-roll-Row Effect Taken drive_step row_step (record { checks = c.in_ok-checks.checks; body = c.in_ok-body.body }))
    ∙ c.in_ok-checks.ensures.holds w n now s ∙ ap (λ (ts : List Test). list_all (λ x. test_holds Coming x v s) ts) c.as_slice.ensures
    ∙ sym (ap (λ (m : Choice Coming). m.0 v s) (branch_of-Branch Coming c.args.branch.now))
