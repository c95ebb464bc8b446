use Rattle.std.proofs.Common.{rules, ◌≡◌, length, ◌+◌, ◌-◌, true, false, ap, sym, ◌∙◌, arith, ◌⊎◌, inl, inr}
use Rattle.std.proofs.lemmas.Result.{err_from_is_err_and}
use Rattle.vh_tree_reading.specs.Read.{sees, many_at}
use Rattle.vh_tree_reading.specs.ReadDesign.{process_at}
use Rattle.vh_tree.specs.declared.token.Mark.TheVariants as m
use Rattle.rw_base.proofs.Answers.{fails_on}
use Rattle.vhdl_read.proofs.Turns.{with_front, many_step, many_fail, many_done, processes_turns}
use Rattle.vhdl_read.proofs.process.processes.Goals as goal
use Rattle.vhdl_read.proofs.process.processes.Goals.{else-loop-turn-test, then-loop-turn-test+then-not-sees}

pub returns-in_err-one : goal.returns-in_err-one
returns-in_err-one c =
    let p = err_from_is_err_and c.from_residual.result c.from_residual.ensures.1 in
    let begins : sees m.Process c.loop-turn.rest.now ≡ true = search rules in
    rw (p.1, p.2) (fails_on c.in_err-one.field-0.0 ((process_at c.args.levels) c.loop-turn.rest.now) _ c.in_err-one.ensures
    (λ h. processes_turns c.args.levels c.args.tokens.now ∙ sym c.loop-turn.invariant ∙ many_fail (sees m.Process) (process_at c.args.levels) _ (length c.args.tokens.now - (c.loop-turn._turn + 1)) c.loop-turn.rest.now c.loop-turn.all (omega arith) begins h))

pub loop-turn-preserved : goal.loop-turn-preserved
loop-turn-preserved c =
    let next = length c.args.tokens.now - (c.loop-turn._turn + 1) in
    let begins : sees m.Process c.loop-turn.rest.now ≡ true = search rules in
    let step = many_step (sees m.Process) (process_at c.args.levels) (length c.args.tokens.now - c.loop-turn._turn) next c.loop-turn.rest.now c.loop-turn.all c.in_ok-one.one c.in_ok-one.behind.now (omega arith) begins c.in_ok-one.ensures in
    ap (λ f. with_front f (many_at (sees m.Process) (process_at c.args.levels) next c.in_ok-one.behind.now)) c.in_ok-push.ensures.ok ∙ step ∙ c.loop-turn.invariant

pub returns : goal.returns
returns c =
    let left = length c.args.tokens.now - c.loop-turn._turn in
    let done : (left ≡ 0) ⊎ (sees m.Process c.loop-turn.rest.now ≡ false) =
    elim c.loop-turn-test.branch [ else-loop-turn-test w ↦ inl (omega arith) | then-loop-turn-test+then-not-sees w ↦ inr (search rules) ] in
    processes_turns c.args.levels c.args.tokens.now ∙ sym c.loop-turn.invariant ∙ many_done (sees m.Process) (process_at c.args.levels) left c.loop-turn.rest.now c.loop-turn.all done
