use Rattle.std.proofs.Common.{rules, ◌≡◌, length, ◌+◌, ◌-◌, true, false, drop, ap, sym, ◌∙◌, arith, Some}
use Rattle.std.proofs.lemmas.Result.{err_from_is_err_and}
use Rattle.vh_tree_reading.specs.Read.{sees, separated_at}
use Rattle.vh_tree_reading.specs.ReadDesign.{sensitive_at}
use Rattle.vh_tree.specs.declared.token.Mark.TheVariants as m
use Rattle.rw_base.proofs.Answers.{fails_on}
use Rattle.vhdl_read.proofs.Turns.{with_front, separated_last, separated_step, separated_fail, separated_none, names_turns}
use Rattle.vhdl_read.proofs.process.names.Goals as goal

pub returns-in_err-one : goal.returns-in_err-one
returns-in_err-one c =
    let p = err_from_is_err_and c.from_residual.result c.from_residual.ensures.1 in
    rw (p.1, p.2) (fails_on c.in_err-one.field-0.0 (sensitive_at c.loop-turn.rest.now) _ c.in_err-one.ensures
    (λ h. names_turns c.args.tokens.now ∙ sym c.loop-turn.invariant ∙ separated_fail m.Comma sensitive_at _ (length c.args.tokens.now - (c.loop-turn._turn + 1)) c.loop-turn.rest.now c.loop-turn.all (omega arith) h))

pub returns-then-not-sees : goal.returns-then-not-sees
returns-then-not-sees c =
    let stop : sees m.Comma c.in_ok-one.behind.now ≡ false = search rules in
    let last = separated_last m.Comma sensitive_at (length c.args.tokens.now - c.loop-turn._turn) (length c.args.tokens.now - (c.loop-turn._turn + 1)) c.loop-turn.rest.now c.loop-turn.all c.in_ok-one.one c.in_ok-one.behind.now (omega arith) c.in_ok-one.ensures stop in
    names_turns c.args.tokens.now ∙ sym c.loop-turn.invariant ∙ last ∙ ap (λ f. Some (f, c.in_ok-one.behind.now)) (sym c.in_ok-push.ensures.ok)

pub loop-turn-preserved : goal.loop-turn-preserved
loop-turn-preserved c =
    let next = length c.args.tokens.now - (c.loop-turn._turn + 1) in
    let more : sees m.Comma c.in_ok-one.behind.now ≡ true = search rules in
    let step = separated_step m.Comma sensitive_at (length c.args.tokens.now - c.loop-turn._turn) next c.loop-turn.rest.now c.loop-turn.all c.in_ok-one.one c.in_ok-one.behind.now (omega arith) c.in_ok-one.ensures more in
    ap (λ r. with_front c.push.new.self (separated_at m.Comma sensitive_at next r)) c.rest_of-rest.ensures
    ∙ ap (λ f. with_front f (separated_at m.Comma sensitive_at next (drop 1 c.in_ok-one.behind.now))) c.in_ok-push.ensures.ok ∙ step ∙ c.loop-turn.invariant

pub returns : goal.returns
returns c =
    names_turns c.args.tokens.now ∙ sym c.loop-turn.invariant ∙ separated_none m.Comma sensitive_at (length c.args.tokens.now - c.loop-turn._turn) c.loop-turn.rest.now c.loop-turn.all (omega arith)
