use Rattle.std.proofs.Common.{rules, ◌≡◌, length, ◌+◌, ◌-◌, true, false, drop, ap, sym, ◌∙◌, arith, Some}
use Rattle.std.proofs.lemmas.Result.{err_from_is_err_and}
use Rattle.vh_tree_reading.specs.Read.{sees, separated_at}
use Rattle.vh_tree_reading.specs.Read.{args_at, expr_at, term_at}
use Rattle.vh_tree.specs.declared.token.Mark.TheVariants as m
use Rattle.rw_base.proofs.Answers.{fails_on}
use Rattle.vhdl_read.proofs.Turns.{with_front, separated_last, separated_step, separated_fail, separated_none}
use Rattle.vhdl_read.proofs.expr.+exprs.Goals as goal

pub exprs-returns-in_err-one : goal.exprs-returns-in_err-one
exprs-returns-in_err-one t c =
    let p = err_from_is_err_and c.from_residual.result c.from_residual.ensures.1 in
    let one = expr_at (args_at c.args.levels) in
    rw (p.1, p.2) (fails_on c.in_err-one.field-0.0 (one c.loop-turn.rest.now) _ c.in_err-one.ensures
    (λ h. sym c.loop-turn.invariant ∙ separated_fail m.Comma one _ (length c.args.tokens.now - (c.loop-turn._turn + 1)) c.loop-turn.rest.now c.loop-turn.all (omega arith) h))

pub exprs-returns-then-not-sees : goal.exprs-returns-then-not-sees
exprs-returns-then-not-sees t c =
    let one = expr_at (args_at c.args.levels) in
    let stop : sees m.Comma c.in_ok-one.behind.now ≡ false = search rules in
    let last = separated_last m.Comma one (length c.args.tokens.now - c.loop-turn._turn) (length c.args.tokens.now - (c.loop-turn._turn + 1)) c.loop-turn.rest.now c.loop-turn.all c.in_ok-one.one c.in_ok-one.behind.now (omega arith) c.in_ok-one.ensures stop in
    sym c.loop-turn.invariant ∙ last ∙ ap (λ f. Some (f, c.in_ok-one.behind.now)) (sym c.in_ok-push.ensures.ok)

pub exprs-loop-turn-preserved : goal.exprs-loop-turn-preserved
exprs-loop-turn-preserved t c =
    let one = expr_at (args_at c.args.levels) in
    let next = length c.args.tokens.now - (c.loop-turn._turn + 1) in
    let more : sees m.Comma c.in_ok-one.behind.now ≡ true = search rules in
    let step = separated_step m.Comma one (length c.args.tokens.now - c.loop-turn._turn) next c.loop-turn.rest.now c.loop-turn.all c.in_ok-one.one c.in_ok-one.behind.now (omega arith) c.in_ok-one.ensures more in
    ap (λ r. with_front c.push.new.self (separated_at m.Comma one next r)) c.rest_of-rest.ensures
    ∙ ap (λ f. with_front f (separated_at m.Comma one next (drop 1 c.in_ok-one.behind.now))) c.in_ok-push.ensures.ok ∙ step ∙ c.loop-turn.invariant

pub exprs-returns : goal.exprs-returns
exprs-returns t c =
    sym c.loop-turn.invariant ∙ separated_none m.Comma (expr_at (args_at c.args.levels)) (length c.args.tokens.now - c.loop-turn._turn) c.loop-turn.rest.now c.loop-turn.all (omega arith)

pub terms-returns-in_err-one : goal.terms-returns-in_err-one
terms-returns-in_err-one t c =
    let p = err_from_is_err_and c.from_residual.result c.from_residual.ensures.1 in
    let one = term_at (args_at c.args.levels) in
    rw (p.1, p.2) (fails_on c.in_err-one.field-0.0 (one c.loop-turn.rest.now) _ c.in_err-one.ensures
    (λ h. sym c.loop-turn.invariant ∙ separated_fail m.Amp one _ (length c.args.tokens.now - (c.loop-turn._turn + 1)) c.loop-turn.rest.now c.loop-turn.all (omega arith) h))

pub terms-returns-then-not-sees : goal.terms-returns-then-not-sees
terms-returns-then-not-sees t c =
    let one = term_at (args_at c.args.levels) in
    let stop : sees m.Amp c.in_ok-one.behind.now ≡ false = search rules in
    let last = separated_last m.Amp one (length c.args.tokens.now - c.loop-turn._turn) (length c.args.tokens.now - (c.loop-turn._turn + 1)) c.loop-turn.rest.now c.loop-turn.all c.in_ok-one.one c.in_ok-one.behind.now (omega arith) c.in_ok-one.ensures stop in
    sym c.loop-turn.invariant ∙ last ∙ ap (λ f. Some (f, c.in_ok-one.behind.now)) (sym c.in_ok-push.ensures.ok)

pub terms-loop-turn-preserved : goal.terms-loop-turn-preserved
terms-loop-turn-preserved t c =
    let one = term_at (args_at c.args.levels) in
    let next = length c.args.tokens.now - (c.loop-turn._turn + 1) in
    let more : sees m.Amp c.in_ok-one.behind.now ≡ true = search rules in
    let step = separated_step m.Amp one (length c.args.tokens.now - c.loop-turn._turn) next c.loop-turn.rest.now c.loop-turn.all c.in_ok-one.one c.in_ok-one.behind.now (omega arith) c.in_ok-one.ensures more in
    ap (λ r. with_front c.push.new.self (separated_at m.Amp one next r)) c.rest_of-rest.ensures
    ∙ ap (λ f. with_front f (separated_at m.Amp one next (drop 1 c.in_ok-one.behind.now))) c.in_ok-push.ensures.ok ∙ step ∙ c.loop-turn.invariant

pub terms-returns : goal.terms-returns
terms-returns t c =
    sym c.loop-turn.invariant ∙ separated_none m.Amp (term_at (args_at c.args.levels)) (length c.args.tokens.now - c.loop-turn._turn) c.loop-turn.rest.now c.loop-turn.all (omega arith)
