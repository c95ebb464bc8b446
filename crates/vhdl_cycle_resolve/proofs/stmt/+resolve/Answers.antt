-- Statements and branches, one more at the end, and a choice.
use Rattle.std.proofs.Common.{arith, ◌≡◌, ◌+◌, ◌++◌, List, [], ◌∷◌, map, take, sym, ap, ◌∙◌, subst}
use Rattle.std.proofs.lemmas.Grind.{common_steps}
use Rattle.vh_tree.specs.Bits.{Bits}
use Rattle.vh_tree.specs.Functions.{Choice, stmt_of as stmt_means, stmts_of as stmts_mean, branch_of as branch_means}
use Rattle.vh_tree_equations.specs.Equations.{stmt_of-If}
use Rattle.vh_tree.specs.declared.stmt.VStmt.{VStmt}
use Rattle.vh_tree.specs.declared.stmt.Branch.{Branch}
use Rattle.vhdl_cycle_flat.specs.Flat.{Effect, Taken, stmt_of, branch_of, in_order, room_in_order, room_first}
use Rattle.vhdl_cycle_flat.specs.Names.{function_world_over}
use Rattle.vhdl_cycle_resolve.specs.Over.{slots_in, frames_in, Agree}
use Rattle.vhdl_cycle_resolve.proofs.Ordered.{mapped_more, in_order_more, room_in_order_more, room_first_more, room_first_split, agree_more, agree_taken}
use Rattle.vhdl_cycle_resolve.proofs.stmt.+resolve.Goals as goal

pub resolve_stmts-loop-stmt-preserved : goal.resolve_stmts-loop-stmt-preserved
resolve_stmts-loop-stmt-preserved t c =
    let r = c.in_ok-r.r in
    let longer = mapped_more stmt_of c.loop-stmt.out c.push.new.self r c.in_ok-push.ensures.ok in
    record {
      after = λ n frame.
          let one = ap (λ (es : List Effect). in_order es n frame) longer ∙ in_order_more (map stmt_of c.loop-stmt.out) (stmt_of r) n frame in
          let far = c.loop-stmt.invariant.after n frame in
          let here = c.in_ok-r.ensures.after n (in_order (map stmt_of c.loop-stmt.out) n frame) in
          grind (arith, common_steps, one, far, here);
      room = λ n frame.
          let one = ap (λ (es : List Effect). room_in_order es n frame) longer ∙ room_in_order_more (map stmt_of c.loop-stmt.out) (stmt_of r) n frame in
          omega (arith, one, c.loop-stmt.invariant.room n frame, c.in_ok-r.ensures.room n (in_order (map stmt_of c.loop-stmt.out) n frame), c.in_ok-r.ensures.raised);
      raised = omega (arith, c.in_ok-r.ensures.raised);
    }

pub resolve_stmt-returns-in_ok-last-in-If-clause-after : goal.resolve_stmt-returns-in_ok-last-in-If-clause-after
resolve_stmt-returns-in_ok-last-in-If-clause-after t c = λ n frame.
    let w = function_world_over (slots_in c.args.slots.now) (frames_in c.args.funs.now) n in
    let rows = map branch_of c.in_ok-rows-in-If.rows in
    let branches = map (branch_means Bits) c.in-If.branches in
    let last = map stmt_of c.in_ok-last-in-If.last in
    let other = stmts_mean Bits c.in-If.other in
    let P : List Branch → Type 0 = λ bs. Agree w n frame rows (map (branch_means Bits) bs) in
    let agree : Agree w n frame rows branches = subst P c.as_slice.ensures (c.in_ok-rows-in-If.ensures.agree n frame) in
    let same : in_order last n frame ≡ other w frame =
    c.in_ok-last-in-If.ensures.after n frame ∙ ap (λ (xs : List VStmt). stmts_mean Bits xs w frame) c.as_slice-in-If.ensures in
    c.choice.ensures.after n frame ∙ agree_taken w n frame rows branches last other agree same
    ∙ sym (ap (λ v. stmt_means Bits v w frame) c.in-If.is ∙ stmt_of-If Bits c.in-If.branches c.in-If.other w frame)

pub resolve_stmt-returns-in_ok-last-in-If-clause-room : goal.resolve_stmt-returns-in_ok-last-in-If-clause-room
resolve_stmt-returns-in_ok-last-in-If-clause-room t c = λ n frame.
    omega (
      arith,
      c.choice.ensures.room n frame,
      room_first_split (map branch_of c.in_ok-rows-in-If.rows) (map stmt_of c.in_ok-last-in-If.last) n frame,
      c.in_ok-rows-in-If.ensures.room n frame,
      c.in_ok-last-in-If.ensures.room n frame,
      c.in_ok-last-in-If.ensures.raised,
    )

pub resolve_branches-loop-branch-preserved : goal.resolve_branches-loop-branch-preserved
resolve_branches-loop-branch-preserved t c =
    let r = c.in_ok-r.r in
    let longer = mapped_more branch_of c.loop-branch.out c.push.new.self r c.in_ok-push.ensures.ok in
    record {
      agree = λ n frame.
          let w = function_world_over (slots_in c.args.slots.now) (frames_in c.args.funs.now) n in
          let m : Choice Bits = branch_means Bits c.branch-item.result in
          let so_far = map (branch_means Bits) (take c.loop-branch.branch-index c.args.branches.now) in
          let more = agree_more w n frame (map branch_of c.loop-branch.out) so_far (branch_of r) m (c.loop-branch.invariant.agree n frame) (c.in_ok-r.ensures.tests n frame) (c.in_ok-r.ensures.body n frame) in
          let right : map (branch_means Bits) (take (c.loop-branch.branch-index + 1) c.args.branches.now) ≡ so_far ++ m ∷ [] = grind (arith, common_steps) in
          let P : List Taken → List (Choice Bits) → Type 0 = Agree w n frame in
          subst (λ y. P y (map (branch_means Bits) (take (c.loop-branch.branch-index + 1) c.args.branches.now))) (sym longer) (subst (P (map branch_of c.loop-branch.out ++ branch_of r ∷ [])) (sym right) more);
      room = λ n frame.
          let one = ap (λ (bs : List Taken). room_first bs [] n frame) longer ∙ room_first_more (map branch_of c.loop-branch.out) (branch_of r) n frame in
          omega (arith, one, c.loop-branch.invariant.room n frame, c.in_ok-r.ensures.tests_room n frame, c.in_ok-r.ensures.body_room n frame, c.in_ok-r.ensures.raised);
      raised = omega (arith, c.in_ok-r.ensures.raised);
    }
