-- The turns of the loop over operands and operators.
use Rattle.std.proofs.Common.{rules, ◌≡◌, length, ◌+◌, ◌-◌, true, false, [], ◌∷◌, ◌++◌, ap, sym, ◌∙◌, arith, Some, List}
use Rattle.std.proofs.lemmas.Result.{err_from_is_err_and}
use Rattle.rw_base.specs.declared.place.Span.{Span}
use Rattle.rw_tree.specs.declared.expr.Expr.{Expr}
use Rattle.rw_parser_grammar.specs.declared.lexeme.Lexeme.{Lexeme}
use Rattle.rw_parser_reading.specs.Read.{Read}
use Rattle.rw_parser_reading.specs.ReadNames.{begins_op, op_at}
use Rattle.rw_parser_reading.specs.ReadExpressions.{begins_last}
use Rattle.rw_base.proofs.Answers.{fails_on}
use Rattle.rw_parser_parts.specs.Steps.{links_at}
use Rattle.rw_parser_clauses.specs.Inside.{operand_inside}
use Rattle.rw_parser_clauses.proofs.Links.{with_links, links_none, links_open, links_fail, links_whole, links_stuck, links_step}
use Rattle.rw_parser_clauses.proofs.inside.Inside.links.Goals as goal

pub returns-then-begins_last : goal.returns-then-begins_last
returns-then-begins_last g c =
    let one : List Lexeme → Read (Expr Span) = operand_inside c.args.self.now.levels c.args.self.now.room in
    let last : begins_last c.loop-turn.rest.now ≡ true = search rules in
    sym c.loop-turn.invariant
    ∙ links_open one c.loop-turn.operands c.loop-turn.operators (length c.args.tokens.now - c.loop-turn._turn) (length c.args.tokens.now - (c.loop-turn._turn + 1)) c.loop-turn.rest.now (omega arith) last

pub returns-in_err-one : goal.returns-in_err-one
returns-in_err-one g c =
    let p = err_from_is_err_and c.from_residual.result c.from_residual.ensures.1 in
    let one : List Lexeme → Read (Expr Span) = operand_inside c.args.self.now.levels c.args.self.now.room in
    let last : begins_last c.loop-turn.rest.now ≡ false = search rules in
    rw (p.1, p.2) (fails_on c.in_err-one.field-0.0 (one c.loop-turn.rest.now) _ c.in_err-one.ensures
    (λ h. sym c.loop-turn.invariant
    ∙ links_fail one c.loop-turn.operands c.loop-turn.operators (length c.args.tokens.now - c.loop-turn._turn) (length c.args.tokens.now - (c.loop-turn._turn + 1)) c.loop-turn.rest.now (omega arith) last h))

pub returns-then-not-begins_op : goal.returns-then-not-begins_op
returns-then-not-begins_op g c =
    let one : List Lexeme → Read (Expr Span) = operand_inside c.args.self.now.levels c.args.self.now.room in
    let last : begins_last c.loop-turn.rest.now ≡ false = search rules in
    let ends : begins_op c.in_ok-one.behind.now ≡ false = search rules in
    sym c.loop-turn.invariant
    ∙ links_whole one c.loop-turn.operands c.loop-turn.operators (length c.args.tokens.now - c.loop-turn._turn) (length c.args.tokens.now - (c.loop-turn._turn + 1)) c.loop-turn.rest.now
    c.in_ok-one.one c.in_ok-one.behind.now (omega arith) last c.in_ok-one.ensures ends
    ∙ ap (λ z. Some (record { operands = z; operators = c.loop-turn.operators; is_open = false }, c.in_ok-one.behind.now)) (sym c.in_ok-push.ensures.ok)

pub returns-in_err-between : goal.returns-in_err-between
returns-in_err-between g c =
    let p = err_from_is_err_and c.from_residual-in_err-between.result c.from_residual-in_err-between.ensures.1 in
    let one : List Lexeme → Read (Expr Span) = operand_inside c.args.self.now.levels c.args.self.now.room in
    let last : begins_last c.loop-turn.rest.now ≡ false = search rules in
    let more : begins_op c.in_ok-one.behind.now ≡ true = search rules in
    rw (p.1, p.2) (fails_on c.in_err-between.field-0.0 (op_at c.in_ok-one.behind.now) _ c.in_err-between.ensures
    (λ h. sym c.loop-turn.invariant
    ∙ links_stuck one c.loop-turn.operands c.loop-turn.operators (length c.args.tokens.now - c.loop-turn._turn) (length c.args.tokens.now - (c.loop-turn._turn + 1)) c.loop-turn.rest.now
    c.in_ok-one.one c.in_ok-one.behind.now (omega arith) last c.in_ok-one.ensures more h))

pub loop-turn-preserved : goal.loop-turn-preserved
loop-turn-preserved g c =
    let one : List Lexeme → Read (Expr Span) = operand_inside c.args.self.now.levels c.args.self.now.room in
    let next = length c.args.tokens.now - (c.loop-turn._turn + 1) in
    let last : begins_last c.loop-turn.rest.now ≡ false = search rules in
    let more : begins_op c.in_ok-one.behind.now ≡ true = search rules in
    let step = links_step one c.loop-turn.operands c.loop-turn.operators (length c.args.tokens.now - c.loop-turn._turn) next c.loop-turn.rest.now
    c.in_ok-one.one c.in_ok-one.behind.now c.in_ok-between.between c.in_ok-between.next.now (omega arith) last c.in_ok-one.ensures more c.in_ok-between.ensures in
    ap (λ z. with_links z c.push-in-loop-turn.new.self (links_at one next c.in_ok-between.next.now)) c.in_ok-push.ensures.ok
    ∙ ap (λ z. with_links (c.loop-turn.operands ++ c.in_ok-one.one ∷ []) z (links_at one next c.in_ok-between.next.now)) c.in_ok-push-2.ensures.ok ∙ step ∙ c.loop-turn.invariant

pub returns : goal.returns
returns g c =
    sym c.loop-turn.invariant
    ∙ links_none (operand_inside c.args.self.now.levels c.args.self.now.room) c.loop-turn.operands c.loop-turn.operators (length c.args.tokens.now - c.loop-turn._turn) c.loop-turn.rest.now (omega arith)
