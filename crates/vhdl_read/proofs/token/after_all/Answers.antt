-- One mark after another.
use Rattle.std.proofs.Common.{sym, ◌∙◌, arith}
use Rattle.std.proofs.lemmas.Result.{err_from_is_err_and}
use Rattle.rw_base.proofs.Answers.{fails_on}
use Rattle.vhdl_read.proofs.Turns.{after_next, after_missing, after_done}
use Rattle.vhdl_read.proofs.token.after_all.Goals as goal

pub returns-in_err-behind : goal.returns-in_err-behind
returns-in_err-behind c =
    let p = err_from_is_err_and c.from_residual.result c.from_residual.ensures.1 in
    rw (p.1, p.2) (fails_on c.in_err-behind.field-0.0 _ _ c.in_err-behind.ensures
    (λ h. sym c.loop-mark.invariant ∙ after_missing c.args.wanted.now c.loop-mark.mark-index c.loop-mark.rest.now _ c.loop-mark-test.true h))

pub loop-mark-preserved : goal.loop-mark-preserved
loop-mark-preserved c =
    after_next c.args.wanted.now c.loop-mark.mark-index c.loop-mark.rest.now c.in_ok-behind.behind.now _ c.loop-mark-test.true c.in_ok-behind.ensures ∙ c.loop-mark.invariant

pub returns : goal.returns
returns c = sym c.loop-mark.invariant ∙ after_done c.args.wanted.now c.loop-mark.mark-index c.loop-mark.rest.now (omega arith)
