-- The turns of the loop over arguments.
use Rattle.std.proofs.Common.{rules, ◌≡◌, length, ◌+◌, ◌-◌, true, false, ap, sym, ◌∙◌, arith, List, ◌⊎◌, inl, inr}
use Rattle.std.proofs.lemmas.Result.{err_from_is_err_and}
use Rattle.rw_base.specs.declared.place.Span.{Span}
use Rattle.rw_tree.specs.declared.expr.Expr.{Expr}
use Rattle.rw_parser_grammar.specs.declared.lexeme.Lexeme.{Lexeme}
use Rattle.rw_parser_reading.specs.Read.{Read, many_at}
use Rattle.rw_parser_reading.specs.ReadExpressions.{begins_aexp, aexp_at}
use Rattle.rw_base.proofs.Answers.{fails_on}
use Rattle.rw_parser_patterns.proofs.Turns.{with_front, many_step, many_fail, many_done}
use Rattle.rw_parser_parts.specs.Within.{expression_within}
use Rattle.rw_parser_parts.proofs.Blocks.{aexps_turns}
use Rattle.rw_parser_clauses.proofs.inside.Inside.aexps.Goals as goal
use Rattle.rw_parser_clauses.proofs.inside.Inside.aexps.Goals.{else-loop-turn-test, then-loop-turn-test+then-not-begins_aexp}

pub returns-in_err-one : goal.returns-in_err-one
returns-in_err-one g c =
    let p = err_from_is_err_and c.from_residual.result c.from_residual.ensures.1 in
    let begins : begins_aexp c.loop-turn.rest.now ≡ true = search rules in
    let one : List Lexeme → Read (Expr Span) = aexp_at (expression_within c.args.self.now.levels c.args.self.now.room) in
    rw (p.1, p.2) (fails_on c.in_err-one.field-0.0 (one c.loop-turn.rest.now) _ c.in_err-one.ensures
    (λ h. aexps_turns (expression_within c.args.self.now.levels c.args.self.now.room) c.args.tokens.now ∙ sym c.loop-turn.invariant ∙ many_fail begins_aexp one _ (length c.args.tokens.now - (c.loop-turn._turn + 1)) c.loop-turn.rest.now c.loop-turn.all (omega arith) begins h))

pub loop-turn-preserved : goal.loop-turn-preserved
loop-turn-preserved g c =
    let one : List Lexeme → Read (Expr Span) = aexp_at (expression_within c.args.self.now.levels c.args.self.now.room) in
    let next = length c.args.tokens.now - (c.loop-turn._turn + 1) in
    let begins : begins_aexp c.loop-turn.rest.now ≡ true = search rules in
    let step = many_step begins_aexp one (length c.args.tokens.now - c.loop-turn._turn) next c.loop-turn.rest.now c.loop-turn.all c.in_ok-one.one c.in_ok-one.behind.now (omega arith) begins c.in_ok-one.ensures in
    ap (λ f. with_front f (many_at begins_aexp one next c.in_ok-one.behind.now)) c.in_ok-push.ensures.ok ∙ step ∙ c.loop-turn.invariant

pub returns : goal.returns
returns g c =
    let left = length c.args.tokens.now - c.loop-turn._turn in
    let done : (left ≡ 0) ⊎ (begins_aexp c.loop-turn.rest.now ≡ false) =
    elim c.loop-turn-test.branch [ else-loop-turn-test w ↦ inl (omega arith) | then-loop-turn-test+then-not-begins_aexp w ↦ inr (search rules) ] in
    aexps_turns (expression_within c.args.self.now.levels c.args.self.now.room) c.args.tokens.now ∙ sym c.loop-turn.invariant ∙ many_done begins_aexp (aexp_at (expression_within c.args.self.now.levels c.args.self.now.room)) left c.loop-turn.rest.now c.loop-turn.all done
