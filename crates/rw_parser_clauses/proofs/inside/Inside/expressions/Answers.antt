-- The turns of the loop over expressions with commas between.
use Rattle.std.proofs.Common.{rules, ◌≡◌, length, ◌+◌, ◌-◌, true, false, drop, ap, sym, ◌∙◌, arith, Some, List}
use Rattle.std.proofs.lemmas.Result.{err_from_is_err_and}
use Rattle.rw_base.specs.declared.place.Span.{Span}
use Rattle.rw_tree.specs.declared.expr.Expr.{Expr}
use Rattle.rw_parser_grammar.specs.declared.lexeme.Lexeme.{Lexeme}
use Rattle.rw_parser_reading.specs.Read.{Read, sees, separated_at}
use Rattle.rw_parser_grammar.specs.declared.lexeme.Mark.TheVariants as m
use Rattle.rw_base.proofs.Answers.{fails_on}
use Rattle.rw_parser_patterns.proofs.Turns.{with_front, separated_last, separated_step, separated_fail, separated_none}
use Rattle.rw_parser_parts.specs.Within.{expression_within}
use Rattle.rw_parser_clauses.proofs.inside.Inside.expressions.Goals as goal

pub returns-in_err-one : goal.returns-in_err-one
returns-in_err-one g c =
    let p = err_from_is_err_and c.from_residual.result c.from_residual.ensures.1 in
    let one : List Lexeme → Read (Expr Span) = expression_within c.args.self.now.levels c.args.self.now.room in
    rw (p.1, p.2) (fails_on c.in_err-one.field-0.0 (one c.loop-turn.rest.now) _ c.in_err-one.ensures
    (λ h. sym c.loop-turn.invariant ∙ separated_fail m.Comma one _ (length c.args.tokens.now - (c.loop-turn._turn + 1)) c.loop-turn.rest.now c.loop-turn.all (omega arith) h))

pub returns-then-not-sees : goal.returns-then-not-sees
returns-then-not-sees g c =
    let one : List Lexeme → Read (Expr Span) = expression_within c.args.self.now.levels c.args.self.now.room in
    let stop : sees m.Comma c.in_ok-one.behind.now ≡ false = search rules in
    let last = separated_last m.Comma one (length c.args.tokens.now - c.loop-turn._turn) (length c.args.tokens.now - (c.loop-turn._turn + 1)) c.loop-turn.rest.now c.loop-turn.all c.in_ok-one.one c.in_ok-one.behind.now (omega arith) c.in_ok-one.ensures stop in
    sym c.loop-turn.invariant ∙ last ∙ ap (λ f. Some (f, c.in_ok-one.behind.now)) (sym c.in_ok-push.ensures.ok)

pub loop-turn-preserved : goal.loop-turn-preserved
loop-turn-preserved g c =
    let one : List Lexeme → Read (Expr Span) = expression_within c.args.self.now.levels c.args.self.now.room in
    let next = length c.args.tokens.now - (c.loop-turn._turn + 1) in
    let more : sees m.Comma c.in_ok-one.behind.now ≡ true = search rules in
    let step = separated_step m.Comma one (length c.args.tokens.now - c.loop-turn._turn) next c.loop-turn.rest.now c.loop-turn.all c.in_ok-one.one c.in_ok-one.behind.now (omega arith) c.in_ok-one.ensures more in
    ap (λ r. with_front c.push.new.self (separated_at m.Comma one next r)) c.rest_of-rest.ensures.rest
    ∙ ap (λ f. with_front f (separated_at m.Comma one next (drop 1 c.in_ok-one.behind.now))) c.in_ok-push.ensures.ok ∙ step ∙ c.loop-turn.invariant

pub returns : goal.returns
returns g c =
    sym c.loop-turn.invariant
    ∙ separated_none m.Comma (expression_within c.args.self.now.levels c.args.self.now.room) (length c.args.tokens.now - c.loop-turn._turn) c.loop-turn.rest.now c.loop-turn.all (omega arith)
