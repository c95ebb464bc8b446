use Rattle.std.proofs.Common.{rules, ◌≡◌, length, ◌+◌, ◌-◌, true, false, drop, ap, sym, ◌∙◌, arith, Some}
use Rattle.std.proofs.lemmas.Result.{err_from_is_err_and}
use Rattle.rw_parser_reading.specs.Read.{sees, separated_at}
use Rattle.rw_parser_grammar.specs.declared.lexeme.Mark.TheVariants as m
use Rattle.rw_base.proofs.Answers.{fails_on}
use Rattle.rw_parser_patterns.proofs.Turns.{with_front, separated_last, separated_step, separated_fail, separated_none}
use Rattle.rw_parser_items.specs.Named.{named_at}
use Rattle.rw_parser_items.proofs.list.names.Goals as goal

pub returns-in_err-one-clause-read : goal.returns-in_err-one-clause-read
returns-in_err-one-clause-read c =
    let p = err_from_is_err_and c.from_residual.result c.from_residual.ensures.1 in
    let one = named_at c.args.which in
    rw (p.1, p.2) (fails_on c.in_err-one.field-0.0 (one c.loop-turn.rest.now) _ c.in_err-one.ensures.read
    (λ h. sym c.loop-turn.invariant.read ∙ separated_fail m.Comma one _ (length c.args.tokens.now - (c.loop-turn._turn + 1)) c.loop-turn.rest.now c.loop-turn.all (omega arith) h))

pub returns-then-not-sees-clause-read : goal.returns-then-not-sees-clause-read
returns-then-not-sees-clause-read c =
    let one = named_at c.args.which in
    let stop : sees m.Comma c.in_ok-one.behind.now ≡ false = search rules in
    let last = separated_last m.Comma one (length c.args.tokens.now - c.loop-turn._turn) (length c.args.tokens.now - (c.loop-turn._turn + 1)) c.loop-turn.rest.now c.loop-turn.all c.in_ok-one.one c.in_ok-one.behind.now (omega arith) c.in_ok-one.ensures.read stop in
    sym c.loop-turn.invariant.read ∙ last ∙ ap (λ f. Some (f, c.in_ok-one.behind.now)) (sym c.in_ok-push.ensures.ok)

pub loop-turn-preserved : goal.loop-turn-preserved
loop-turn-preserved c =
    let one = named_at c.args.which in
    let next = length c.args.tokens.now - (c.loop-turn._turn + 1) in
    let more : sees m.Comma c.in_ok-one.behind.now ≡ true = search rules in
    let step = separated_step m.Comma one (length c.args.tokens.now - c.loop-turn._turn) next c.loop-turn.rest.now c.loop-turn.all c.in_ok-one.one c.in_ok-one.behind.now (omega arith) c.in_ok-one.ensures.read more in
    let s = c.in_ok-one.ensures.shorter in
    let i = c.loop-turn.invariant.shorter in
    let d = c.rest_of-rest.ensures.shorter in
    record {
      read = ap (λ r. with_front c.push.new.self (separated_at m.Comma one next r)) c.rest_of-rest.ensures.rest
          ∙ ap (λ f. with_front f (separated_at m.Comma one next (drop 1 c.in_ok-one.behind.now))) c.in_ok-push.ensures.ok ∙ step ∙ c.loop-turn.invariant.read;
      shorter = omega arith;
    }

pub returns-clause-read : goal.returns-clause-read
returns-clause-read c =
    sym c.loop-turn.invariant.read ∙ separated_none m.Comma (named_at c.args.which) (length c.args.tokens.now - c.loop-turn._turn) c.loop-turn.rest.now c.loop-turn.all (omega arith)
