use Rattle.std.proofs.Common.{rules, ◌≡◌, length, ◌+◌, ◌-◌, true, false, drop, ap, sym, ◌∙◌, arith, Some, ◌⊎◌, inl, inr}
use Rattle.std.proofs.lemmas.Result.{err_from_is_err_and}
use Rattle.vh_tree_reading.specs.Read.{sees, separated_at, many_at}
use Rattle.vh_tree_reading.specs.Read.{args_at, branch_at, stmts_at, stmt_at, choice_levels, begins_stmt}
use Rattle.vh_tree.specs.declared.token.Mark.TheVariants as m
use Rattle.rw_base.proofs.Answers.{fails_on}
use Rattle.vhdl_read.proofs.Turns.{with_front, separated_last, separated_step, separated_fail, separated_none, many_step, many_fail, many_done}
use Rattle.vhdl_read.proofs.Turns.{stmts_turns}
use Rattle.vhdl_read.proofs.stmt.+stmts.Goals as goal
use Rattle.vhdl_read.proofs.stmt.+stmts.Goals.{stmts-else-loop-turn-test, stmts-then-loop-turn-test+then-not-begins_stmt}

pub branches-returns-in_err-one : goal.branches-returns-in_err-one
branches-returns-in_err-one t c =
    let p = err_from_is_err_and c.from_residual.result c.from_residual.ensures.1 in
    let one = branch_at (args_at c.args.levels) (stmts_at c.args.at (args_at c.args.levels) (choice_levels c.args.at c.args.levels)) in
    rw (p.1, p.2) (fails_on c.in_err-one.field-0.0 (one c.loop-turn.rest.now) _ c.in_err-one.ensures
    (λ h. sym c.loop-turn.invariant ∙ separated_fail m.Elsif one _ (length c.args.tokens.now - (c.loop-turn._turn + 1)) c.loop-turn.rest.now c.loop-turn.all (omega arith) h))

pub branches-returns-then-not-sees : goal.branches-returns-then-not-sees
branches-returns-then-not-sees t c =
    let one = branch_at (args_at c.args.levels) (stmts_at c.args.at (args_at c.args.levels) (choice_levels c.args.at c.args.levels)) in
    let stop : sees m.Elsif c.in_ok-one.behind.now ≡ false = search rules in
    let last = separated_last m.Elsif one (length c.args.tokens.now - c.loop-turn._turn) (length c.args.tokens.now - (c.loop-turn._turn + 1)) c.loop-turn.rest.now c.loop-turn.all c.in_ok-one.one c.in_ok-one.behind.now (omega arith) c.in_ok-one.ensures stop in
    sym c.loop-turn.invariant ∙ last ∙ ap (λ f. Some (f, c.in_ok-one.behind.now)) (sym c.in_ok-push.ensures.ok)

pub branches-loop-turn-preserved : goal.branches-loop-turn-preserved
branches-loop-turn-preserved t c =
    let one = branch_at (args_at c.args.levels) (stmts_at c.args.at (args_at c.args.levels) (choice_levels c.args.at c.args.levels)) in
    let next = length c.args.tokens.now - (c.loop-turn._turn + 1) in
    let more : sees m.Elsif c.in_ok-one.behind.now ≡ true = search rules in
    let step = separated_step m.Elsif one (length c.args.tokens.now - c.loop-turn._turn) next c.loop-turn.rest.now c.loop-turn.all c.in_ok-one.one c.in_ok-one.behind.now (omega arith) c.in_ok-one.ensures more in
    ap (λ r. with_front c.push.new.self (separated_at m.Elsif one next r)) c.rest_of-rest.ensures
    ∙ ap (λ f. with_front f (separated_at m.Elsif one next (drop 1 c.in_ok-one.behind.now))) c.in_ok-push.ensures.ok ∙ step ∙ c.loop-turn.invariant

pub branches-returns : goal.branches-returns
branches-returns t c =
    sym c.loop-turn.invariant ∙ separated_none m.Elsif (branch_at (args_at c.args.levels) (stmts_at c.args.at (args_at c.args.levels) (choice_levels c.args.at c.args.levels))) (length c.args.tokens.now - c.loop-turn._turn) c.loop-turn.rest.now c.loop-turn.all (omega arith)

pub stmts-returns-in_err-one : goal.stmts-returns-in_err-one
stmts-returns-in_err-one t c =
    let p = err_from_is_err_and c.from_residual.result c.from_residual.ensures.1 in
    let begins : begins_stmt c.args.at c.loop-turn.rest.now ≡ true = search rules in
    let one = stmt_at c.args.at (args_at c.args.levels) (choice_levels c.args.at c.args.levels) in
    rw (p.1, p.2) (fails_on c.in_err-one.field-0.0 (one c.loop-turn.rest.now) _ c.in_err-one.ensures
    (λ h. stmts_turns c.args.at c.args.levels c.args.tokens.now ∙ sym c.loop-turn.invariant ∙ many_fail (begins_stmt c.args.at) one _ (length c.args.tokens.now - (c.loop-turn._turn + 1)) c.loop-turn.rest.now c.loop-turn.all (omega arith) begins h))

pub stmts-loop-turn-preserved : goal.stmts-loop-turn-preserved
stmts-loop-turn-preserved t c =
    let one = stmt_at c.args.at (args_at c.args.levels) (choice_levels c.args.at c.args.levels) in
    let next = length c.args.tokens.now - (c.loop-turn._turn + 1) in
    let begins : begins_stmt c.args.at c.loop-turn.rest.now ≡ true = search rules in
    let step = many_step (begins_stmt c.args.at) one (length c.args.tokens.now - c.loop-turn._turn) next c.loop-turn.rest.now c.loop-turn.all c.in_ok-one.one c.in_ok-one.behind.now (omega arith) begins c.in_ok-one.ensures in
    ap (λ f. with_front f (many_at (begins_stmt c.args.at) one next c.in_ok-one.behind.now)) c.in_ok-push.ensures.ok ∙ step ∙ c.loop-turn.invariant

pub stmts-returns : goal.stmts-returns
stmts-returns t c =
    let left = length c.args.tokens.now - c.loop-turn._turn in
    let done : (left ≡ 0) ⊎ (begins_stmt c.args.at c.loop-turn.rest.now ≡ false) =
    elim c.loop-turn-test.branch [ stmts-else-loop-turn-test w ↦ inl (omega arith) | stmts-then-loop-turn-test+then-not-begins_stmt w ↦ inr (search rules) ] in
    stmts_turns c.args.at c.args.levels c.args.tokens.now ∙ sym c.loop-turn.invariant ∙ many_done (begins_stmt c.args.at) (stmt_at c.args.at (args_at c.args.levels) (choice_levels c.args.at c.args.levels)) left c.loop-turn.rest.now c.loop-turn.all done
