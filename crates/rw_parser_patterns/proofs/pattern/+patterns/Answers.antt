use Rattle.std.proofs.Common.{rules, ◌≡◌, length, ◌+◌, ◌-◌, true, false, drop, ap, sym, ◌∙◌, arith, Some, ◌⊎◌, inl, inr}
use Rattle.std.proofs.lemmas.Result.{err_from_is_err_and}
use Rattle.rw_parser_reading.specs.Read.{sees, separated_at, many_at}
use Rattle.rw_parser_grammar.specs.declared.lexeme.Mark.TheVariants as m
use Rattle.rw_parser_reading.specs.ReadTypes.{begins_apat, apat_at, pattern_over_at}
use Rattle.rw_parser_patterns.specs.Depth.{any_pattern_at}
use Rattle.rw_parser_patterns.proofs.Enough.{any_pattern_over}
use Rattle.rw_base.proofs.Answers.{fails_on}
use Rattle.rw_parser_patterns.proofs.Turns.{with_front, separated_last, separated_step, separated_fail, separated_none, many_step, many_fail, many_done, apats_turns}
use Rattle.rw_parser_patterns.proofs.pattern.+patterns.Goals as goal
use Rattle.rw_parser_patterns.proofs.pattern.+patterns.Goals.{read_apats-else-loop-turn-test, read_apats-then-loop-turn-test+then-not-begins_apat}

pub read_patterns-returns-in_err-one-clause-read : goal.read_patterns-returns-in_err-one-clause-read
read_patterns-returns-in_err-one-clause-read t c =
    let p = err_from_is_err_and c.from_residual.result c.from_residual.ensures.1 in
    let one = any_pattern_at in
    rw (p.1, p.2) (fails_on c.in_err-one.field-0.0 (pattern_over_at any_pattern_at c.loop-turn.rest.now) _ c.in_err-one.ensures.read
    (λ h. sym c.loop-turn.invariant.read ∙ separated_fail m.Comma one _ (length c.args.tokens.now - (c.loop-turn._turn + 1)) c.loop-turn.rest.now c.loop-turn.all (omega arith) (any_pattern_over c.loop-turn.rest.now ∙ h)))

pub read_patterns-returns-then-not-sees-clause-read : goal.read_patterns-returns-then-not-sees-clause-read
read_patterns-returns-then-not-sees-clause-read t c =
    let one = any_pattern_at in
    let stop : sees m.Comma c.in_ok-one.behind.now ≡ false = search rules in
    let last = separated_last m.Comma one (length c.args.tokens.now - c.loop-turn._turn) (length c.args.tokens.now - (c.loop-turn._turn + 1)) c.loop-turn.rest.now c.loop-turn.all c.in_ok-one.one c.in_ok-one.behind.now (omega arith) (any_pattern_over c.loop-turn.rest.now ∙ c.in_ok-one.ensures.read) stop in
    sym c.loop-turn.invariant.read ∙ last ∙ ap (λ f. Some (f, c.in_ok-one.behind.now)) (sym c.in_ok-push.ensures.ok)

pub read_patterns-loop-turn-preserved : goal.read_patterns-loop-turn-preserved
read_patterns-loop-turn-preserved t c =
    let one = any_pattern_at in
    let next = length c.args.tokens.now - (c.loop-turn._turn + 1) in
    let more : sees m.Comma c.in_ok-one.behind.now ≡ true = search rules in
    let step = separated_step m.Comma one (length c.args.tokens.now - c.loop-turn._turn) next c.loop-turn.rest.now c.loop-turn.all c.in_ok-one.one c.in_ok-one.behind.now (omega arith) (any_pattern_over c.loop-turn.rest.now ∙ c.in_ok-one.ensures.read) more in
    let s = c.in_ok-one.ensures.shorter in
    let i = c.loop-turn.invariant.shorter in
    record {
      read = ap (λ r. with_front c.push.new.self (separated_at m.Comma one next r)) c.rest_of-rest.ensures.rest
          ∙ ap (λ f. with_front f (separated_at m.Comma one next (drop 1 c.in_ok-one.behind.now))) c.in_ok-push.ensures.ok ∙ step ∙ c.loop-turn.invariant.read;
      shorter = let d = c.rest_of-rest.ensures.shorter in omega arith;
    }

pub read_patterns-returns-clause-read : goal.read_patterns-returns-clause-read
read_patterns-returns-clause-read t c =
    sym c.loop-turn.invariant.read ∙ separated_none m.Comma any_pattern_at (length c.args.tokens.now - c.loop-turn._turn) c.loop-turn.rest.now c.loop-turn.all (omega arith)

pub read_apats-returns-in_err-one-clause-read : goal.read_apats-returns-in_err-one-clause-read
read_apats-returns-in_err-one-clause-read t c =
    let p = err_from_is_err_and c.from_residual.result c.from_residual.ensures.1 in
    let begins : begins_apat c.loop-turn.rest.now ≡ true = search rules in
    let one = apat_at any_pattern_at in
    rw (p.1, p.2) (fails_on c.in_err-one.field-0.0 (one c.loop-turn.rest.now) _ c.in_err-one.ensures.read
    (λ h. apats_turns any_pattern_at c.args.tokens.now ∙ sym c.loop-turn.invariant.read ∙ many_fail begins_apat one _ (length c.args.tokens.now - (c.loop-turn._turn + 1)) c.loop-turn.rest.now c.loop-turn.all (omega arith) begins h))

pub read_apats-loop-turn-preserved : goal.read_apats-loop-turn-preserved
read_apats-loop-turn-preserved t c =
    let one = apat_at any_pattern_at in
    let next = length c.args.tokens.now - (c.loop-turn._turn + 1) in
    let begins : begins_apat c.loop-turn.rest.now ≡ true = search rules in
    let step = many_step begins_apat one (length c.args.tokens.now - c.loop-turn._turn) next c.loop-turn.rest.now c.loop-turn.all c.in_ok-one.one c.in_ok-one.behind.now (omega arith) begins c.in_ok-one.ensures.read in
    let s = c.in_ok-one.ensures.shorter in
    let i = c.loop-turn.invariant.shorter in
    record {
      read = ap (λ f. with_front f (many_at begins_apat one next c.in_ok-one.behind.now)) c.in_ok-push.ensures.ok ∙ step ∙ c.loop-turn.invariant.read;
      shorter = omega arith;
    }

pub read_apats-returns-clause-read : goal.read_apats-returns-clause-read
read_apats-returns-clause-read t c =
    let left = length c.args.tokens.now - c.loop-turn._turn in
    let done : (left ≡ 0) ⊎ (begins_apat c.loop-turn.rest.now ≡ false) =
    elim c.loop-turn-test.branch [ read_apats-else-loop-turn-test w ↦ inl (omega arith) | read_apats-then-loop-turn-test+then-not-begins_apat w ↦ inr (search rules) ] in
    apats_turns any_pattern_at c.args.tokens.now ∙ sym c.loop-turn.invariant.read ∙ many_done begins_apat (apat_at any_pattern_at) left c.loop-turn.rest.now c.loop-turn.all done
