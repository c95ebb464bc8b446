use Rattle.std.proofs.Common.{rules, ◌≡◌, length, ◌+◌, ◌-◌, true, false, ap, sym, ◌∙◌, arith, ◌⊎◌, inl, inr}
use Rattle.std.specs.Prelude.{codes}
use Rattle.std.proofs.lemmas.Result.{err_from_is_err_and}
use Rattle.explicit_form.specs.Words.{Word, words_of, sees, special}
use Rattle.explicit_form.specs.Read.{many_at, function_at}
use Rattle.explicit_form.proofs.Budgets.{functions_turns}
use Rattle.rw_base.proofs.Answers.{fails_on}
use Rattle.explicit_form.proofs.Turns.{with_front, many_step, many_fail, many_done}
use Rattle.explicit_form.proofs.read.read_functions.Goals as goal
use Rattle.explicit_form.proofs.read.read_functions.Goals.{else-loop-turn-test, then-loop-turn-test+then-not-sees}

pub returns-in_err-one : goal.returns-in_err-one
returns-in_err-one c =
    let p = err_from_is_err_and c.from_residual.result c.from_residual.ensures.1 in
    let begin : Word = special (codes ";") in
    let begins : sees begin (words_of c.loop-turn.rest.now) ≡ true = search rules in
    rw (p.1, p.2) (fails_on c.in_err-one.field-0.0 (function_at c.args.ports.now (words_of c.loop-turn.rest.now)) _ c.in_err-one.ensures
    (λ h. functions_turns c.args.ports.now c.args.tokens.now ∙ sym c.loop-turn.invariant
    ∙ many_fail begin (function_at c.args.ports.now) _ (length c.args.tokens.now - (c.loop-turn._turn + 1)) (words_of c.loop-turn.rest.now) c.loop-turn.all (omega arith) begins h))

pub loop-turn-preserved : goal.loop-turn-preserved
loop-turn-preserved c =
    let begin : Word = special (codes ";") in
    let next = length c.args.tokens.now - (c.loop-turn._turn + 1) in
    let begins : sees begin (words_of c.loop-turn.rest.now) ≡ true = search rules in
    let step = many_step begin (function_at c.args.ports.now) (length c.args.tokens.now - c.loop-turn._turn) next (words_of c.loop-turn.rest.now) c.loop-turn.all c.in_ok-one.one (words_of c.in_ok-one.behind.now) (omega arith) begins c.in_ok-one.ensures in
    ap (λ f. with_front f (many_at begin (function_at c.args.ports.now) next (words_of c.in_ok-one.behind.now))) c.in_ok-add.ensures ∙ step ∙ c.loop-turn.invariant

pub returns : goal.returns
returns c =
    let begin : Word = special (codes ";") in
    let left = length c.args.tokens.now - c.loop-turn._turn in
    let done : (left ≡ 0) ⊎ (sees begin (words_of c.loop-turn.rest.now) ≡ false) =
    elim c.loop-turn-test.branch [ else-loop-turn-test w ↦ inl (omega arith) | then-loop-turn-test+then-not-sees w ↦ inr (search rules) ] in
    functions_turns c.args.ports.now c.args.tokens.now ∙ sym c.loop-turn.invariant ∙ many_done begin (function_at c.args.ports.now) left (words_of c.loop-turn.rest.now) c.loop-turn.all done
