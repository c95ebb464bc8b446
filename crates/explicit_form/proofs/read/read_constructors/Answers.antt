use Rattle.std.proofs.Common.{rules, ◌≡◌, ℕ, List, [], ◌∷◌, ◌++◌, length, ◌+◌, ◌-◌, true, false, drop, ap, sym, ◌∙◌, arith, Some}
use Rattle.std.specs.Prelude.{codes}
use Rattle.std.proofs.lemmas.Result.{err_from_is_err_and}
use Rattle.rw_lex.specs.declared.token.TokenKind.TheVariants.{Constructor}
use Rattle.explicit_form.specs.Words.{Word, words_of, sees, operator}
use Rattle.explicit_form.specs.Read.{separated_at, name_at}
use Rattle.explicit_form.proofs.Budgets.{constructors_turns}
use Rattle.rw_base.proofs.Answers.{fails_on}
use Rattle.explicit_form.proofs.Turns.{with_front, separated_last, separated_step, separated_fail, separated_none}
use Rattle.explicit_form.proofs.read.read_constructors.Goals as goal

pub returns-in_err-one : goal.returns-in_err-one
returns-in_err-one c =
    let p = err_from_is_err_and c.from_residual.result c.from_residual.ensures.1 in
    let between : Word = operator (codes "|") in
    rw (p.1, p.2) (fails_on c.in_err-one.field-0.0 (name_at Constructor (words_of c.loop-turn.rest.now)) _ c.in_err-one.ensures
    (λ h. constructors_turns c.args.tokens.now ∙ sym c.loop-turn.invariant
    ∙ separated_fail between (name_at Constructor) _ (length c.args.tokens.now - (c.loop-turn._turn + 1)) (words_of c.loop-turn.rest.now) c.loop-turn.all (omega arith) h))

pub returns-then-not-sees : goal.returns-then-not-sees
returns-then-not-sees c =
    let between : Word = operator (codes "|") in
    let stop : sees between (words_of c.in_ok-one.behind.now) ≡ false = search rules in
    let last = separated_last between (name_at Constructor) (length c.args.tokens.now - c.loop-turn._turn) (length c.args.tokens.now - (c.loop-turn._turn + 1)) (words_of c.loop-turn.rest.now) c.loop-turn.all
    c.in_ok-one.one.now (words_of c.in_ok-one.behind.now) (omega arith) c.in_ok-one.ensures stop in
    constructors_turns c.args.tokens.now ∙ sym c.loop-turn.invariant ∙ last ∙ ap (λ f. Some (f, words_of c.in_ok-one.behind.now)) (sym (c.in_ok-add.ensures ∙ ap (λ (n : List ℕ). c.loop-turn.all ++ n ∷ []) c.in_ok-copied.ensures))

pub loop-turn-preserved : goal.loop-turn-preserved
loop-turn-preserved c =
    let between : Word = operator (codes "|") in
    let next = length c.args.tokens.now - (c.loop-turn._turn + 1) in
    let more : sees between (words_of c.in_ok-one.behind.now) ≡ true = search rules in
    let step = separated_step between (name_at Constructor) (length c.args.tokens.now - c.loop-turn._turn) next (words_of c.loop-turn.rest.now) c.loop-turn.all
    c.in_ok-one.one.now (words_of c.in_ok-one.behind.now) (omega arith) c.in_ok-one.ensures more in
    ap (λ r. with_front c.add.new.items (separated_at between (name_at Constructor) next r)) c.rest_of-rest.ensures
    ∙ ap (λ f. with_front f (separated_at between (name_at Constructor) next (drop 1 (words_of c.in_ok-one.behind.now)))) (c.in_ok-add.ensures ∙ ap (λ (n : List ℕ). c.loop-turn.all ++ n ∷ []) c.in_ok-copied.ensures) ∙ step ∙ c.loop-turn.invariant

pub returns : goal.returns
returns c =
    let between : Word = operator (codes "|") in
    constructors_turns c.args.tokens.now ∙ sym c.loop-turn.invariant
    ∙ separated_none between (name_at Constructor) (length c.args.tokens.now - c.loop-turn._turn) (words_of c.loop-turn.rest.now) c.loop-turn.all (omega arith)
