-- Each loop over parts makes one part more at each turn.
use Rattle.std.proofs.Common.{◌≡◌, ◌∙◌, ◌+◌, ◌∷◌, [], suc, max, length, ap, sym, arith, rules, map, drop, reverse, Some}
use Rattle.std.proofs.lemmas.Grind.{common_steps}
use Rattle.std.proofs.lemmas.Result.{err_from_is_err_and}
use Rattle.rw_parser_chains.specs.Fixities.{strength_at}
use Rattle.rw_parser_chains.specs.Grouping.{closed}
use Rattle.rw_parser_chains.specs.Resolving.{all_of, below_of, fits, chained, expression_made, row_made, guard_made, local_made, statement_made}
use Rattle.rw_base.proofs.Answers.{fails_on}
use Rattle.rw_parser_chains.proofs.Turns.{with_front, all_step, all_fail, all_done}
use Rattle.rw_parser_fixity.specs.Nodes.{turned}
use Rattle.rw_parser_fixity.proofs.Chains.{chain_made, unpaired, operand_fails, operator_fails, turn_fails, turns, last_fails, ends}
use Rattle.rw_parser_fixity.proofs.Statements as statement
use Rattle.rw_parser_fixity.proofs.+resolving.Goals as goal

pub expr::expressions-returns-in_err-one : goal.expr::expressions-returns-in_err-one
expr::expressions-returns-in_err-one t c =
    let p = err_from_is_err_and c.from_residual.result c.from_residual.ensures.1 in
    let make = expression_made (strength_at c.args.fixities.now) in
    rw (p.1, p.2) (fails_on c.in_err-one.field-0.0 (make c.expr-item.result) (all_of (map make c.args.exprs.now)) c.in_err-one.ensures
    (λ h. sym c.loop-expr.invariant ∙ all_fail make c.args.exprs.now c.loop-expr.made c.loop-expr.expr-index c.loop-expr.levels c.expr-item.result (omega arith) c.expr-item.is h))

pub expr::expressions-loop-expr-preserved : goal.expr::expressions-loop-expr-preserved
expr::expressions-loop-expr-preserved t c =
    let make = expression_made (strength_at c.args.fixities.now) in
    let m : c.max-levels.result ≡ max c.loop-expr.levels c.in_ok-one.one_levels = first_of (search rules, grind (arith, common_steps)) in
    ap (λ n. with_front c.push.new.self n (all_of (map make (drop (c.loop-expr.expr-index + 1) c.args.exprs.now)))) m
    ∙ all_step make c.args.exprs.now c.loop-expr.made c.push.new.self c.loop-expr.expr-index c.loop-expr.levels c.in_ok-one.one_levels c.expr-item.result c.in_ok-one.one (omega arith) c.expr-item.is c.in_ok-one.ensures c.in_ok-push.ensures.ok
    ∙ c.loop-expr.invariant

pub expr::expressions-returns : goal.expr::expressions-returns
expr::expressions-returns t c =
    let make = expression_made (strength_at c.args.fixities.now) in
    sym c.loop-expr.invariant ∙ all_done make c.args.exprs.now c.loop-expr.made c.loop-expr.expr-index c.loop-expr.levels (omega arith)

pub clause::clauses-returns-in_err-one : goal.clause::clauses-returns-in_err-one
clause::clauses-returns-in_err-one t c =
    let p = err_from_is_err_and c.from_residual.result c.from_residual.ensures.1 in
    let make = row_made (strength_at c.args.fixities.now) in
    rw (p.1, p.2) (fails_on c.in_err-one.field-0.0 (make c.row-item.result) (all_of (map make c.args.rows.now)) c.in_err-one.ensures
    (λ h. sym c.loop-row.invariant ∙ all_fail make c.args.rows.now c.loop-row.made c.loop-row.row-index c.loop-row.levels c.row-item.result (omega arith) c.row-item.is h))

pub clause::clauses-loop-row-preserved : goal.clause::clauses-loop-row-preserved
clause::clauses-loop-row-preserved t c =
    let make = row_made (strength_at c.args.fixities.now) in
    let m : c.max-levels.result ≡ max c.loop-row.levels c.in_ok-one.one_levels = first_of (search rules, grind (arith, common_steps)) in
    ap (λ n. with_front c.push.new.self n (all_of (map make (drop (c.loop-row.row-index + 1) c.args.rows.now)))) m
    ∙ all_step make c.args.rows.now c.loop-row.made c.push.new.self c.loop-row.row-index c.loop-row.levels c.in_ok-one.one_levels c.row-item.result c.in_ok-one.one (omega arith) c.row-item.is c.in_ok-one.ensures c.in_ok-push.ensures.ok
    ∙ c.loop-row.invariant

pub clause::clauses-returns : goal.clause::clauses-returns
clause::clauses-returns t c =
    let make = row_made (strength_at c.args.fixities.now) in
    sym c.loop-row.invariant ∙ all_done make c.args.rows.now c.loop-row.made c.loop-row.row-index c.loop-row.levels (omega arith)

pub clause::guards-returns-in_err-one : goal.clause::guards-returns-in_err-one
clause::guards-returns-in_err-one t c =
    let p = err_from_is_err_and c.from_residual.result c.from_residual.ensures.1 in
    let make = guard_made (strength_at c.args.fixities.now) in
    rw (p.1, p.2) (fails_on c.in_err-one.field-0.0 (make c.body-item.result) (all_of (map make c.args.bodies.now)) c.in_err-one.ensures
    (λ h. sym c.loop-body.invariant ∙ all_fail make c.args.bodies.now c.loop-body.made c.loop-body.body-index c.loop-body.levels c.body-item.result (omega arith) c.body-item.is h))

pub clause::guards-loop-body-preserved : goal.clause::guards-loop-body-preserved
clause::guards-loop-body-preserved t c =
    let make = guard_made (strength_at c.args.fixities.now) in
    let m : c.max-levels.result ≡ max c.loop-body.levels c.in_ok-one.one_levels = first_of (search rules, grind (arith, common_steps)) in
    ap (λ n. with_front c.push.new.self n (all_of (map make (drop (c.loop-body.body-index + 1) c.args.bodies.now)))) m
    ∙ all_step make c.args.bodies.now c.loop-body.made c.push.new.self c.loop-body.body-index c.loop-body.levels c.in_ok-one.one_levels c.body-item.result c.in_ok-one.one (omega arith) c.body-item.is c.in_ok-one.ensures c.in_ok-push.ensures.ok
    ∙ c.loop-body.invariant

pub clause::guards-returns : goal.clause::guards-returns
clause::guards-returns t c =
    let make = guard_made (strength_at c.args.fixities.now) in
    sym c.loop-body.invariant ∙ all_done make c.args.bodies.now c.loop-body.made c.loop-body.body-index c.loop-body.levels (omega arith)

pub clause::locals-returns-in_err-one : goal.clause::locals-returns-in_err-one
clause::locals-returns-in_err-one t c =
    let p = err_from_is_err_and c.from_residual.result c.from_residual.ensures.1 in
    let make = local_made (strength_at c.args.fixities.now) in
    rw (p.1, p.2) (fails_on c.in_err-one.field-0.0 (make c.binding-item.result) (all_of (map make c.args.bindings.now)) c.in_err-one.ensures
    (λ h. sym c.loop-binding.invariant ∙ all_fail make c.args.bindings.now c.loop-binding.made c.loop-binding.binding-index c.loop-binding.levels c.binding-item.result (omega arith) c.binding-item.is h))

pub clause::locals-loop-binding-preserved : goal.clause::locals-loop-binding-preserved
clause::locals-loop-binding-preserved t c =
    let make = local_made (strength_at c.args.fixities.now) in
    let m : c.max-levels.result ≡ max c.loop-binding.levels c.in_ok-one.one_levels = first_of (search rules, grind (arith, common_steps)) in
    ap (λ n. with_front c.push.new.self n (all_of (map make (drop (c.loop-binding.binding-index + 1) c.args.bindings.now)))) m
    ∙ all_step make c.args.bindings.now c.loop-binding.made c.push.new.self c.loop-binding.binding-index c.loop-binding.levels c.in_ok-one.one_levels c.binding-item.result c.in_ok-one.one (omega arith) c.binding-item.is c.in_ok-one.ensures c.in_ok-push.ensures.ok
    ∙ c.loop-binding.invariant

pub clause::locals-returns : goal.clause::locals-returns
clause::locals-returns t c =
    let make = local_made (strength_at c.args.fixities.now) in
    sym c.loop-binding.invariant ∙ all_done make c.args.bindings.now c.loop-binding.made c.loop-binding.binding-index c.loop-binding.levels (omega arith)

pub expr::chain-returns-then-operands-operators : goal.expr::chain-returns-then-operands-operators
expr::chain-returns-then-operands-operators t c = λ at operands operators e.
    let s = strength_at c.args.fixities.now in
    let make = expression_made s in
    let xs = c.as_slice-operands.result.now in
    let os = c.as_slice-operators.result.now in
    let all : make c.args.expr.now ≡ chained s [] (map make os) (map make xs) = chain_made s c.args.expr.now c.in-Chain.field-0 c.in-Chain.operands c.in-Chain.operators xs os c.in-Chain.is c.as_slice-operands.ensures c.as_slice-operators.ensures in
    all ∙ unpaired s make os xs c.if-operands-operators.true

pub expr::chain-returns-in_err-operand : goal.expr::chain-returns-in_err-operand
expr::chain-returns-in_err-operand t c = λ at operands operators e.
    let p = err_from_is_err_and c.from_residual.result c.from_residual.ensures.1 in
    let s = strength_at c.args.fixities.now in
    let make = expression_made s in
    let xs = c.as_slice-operands.result.now in
    let os = c.as_slice-operators.result.now in
    let all : make c.args.expr.now ≡ chained s [] (map make os) (map make xs) = chain_made s c.args.expr.now c.in-Chain.field-0 c.in-Chain.operands c.in-Chain.operators xs os c.in-Chain.is c.as_slice-operands.ensures c.as_slice-operators.ensures in
    rw (p.1, p.2) (fails_on c.in_err-operand.field-0.0 (make c.index-operands-index.result) (make c.args.expr.now) c.in_err-operand.ensures
    (λ h. all ∙ sym c.loop-index.invariant ∙ operand_fails s make os xs c.loop-index.index (reverse c.loop-index.waiting.items) c.index-operands-index.result (omega arith) (omega arith) c.index-operands-index.is h))

pub expr::chain-returns-in_err-operator : goal.expr::chain-returns-in_err-operator
expr::chain-returns-in_err-operator t c = λ at operands operators e.
    let p = err_from_is_err_and c.from_residual-in_err-operator.result c.from_residual-in_err-operator.ensures.1 in
    let s = strength_at c.args.fixities.now in
    let make = expression_made s in
    let xs = c.as_slice-operands.result.now in
    let os = c.as_slice-operators.result.now in
    let all : make c.args.expr.now ≡ chained s [] (map make os) (map make xs) = chain_made s c.args.expr.now c.in-Chain.field-0 c.in-Chain.operands c.in-Chain.operators xs os c.in-Chain.is c.as_slice-operands.ensures c.as_slice-operators.ensures in
    rw (p.1, p.2) (fails_on c.in_err-operator.field-0.0 (make c.index-operators-index.result) (make c.args.expr.now) c.in_err-operator.ensures
    (λ h. all ∙ sym c.loop-index.invariant ∙ operator_fails s make os xs c.loop-index.index (reverse c.loop-index.waiting.items) c.index-operands-index.result (omega arith) (omega arith) c.index-operands-index.is c.index-operators-index.result c.index-operators-index.is h))

pub expr::chain-returns-in_err-turn : goal.expr::chain-returns-in_err-turn
expr::chain-returns-in_err-turn t c = λ at operands operators e.
    let p = err_from_is_err_and c.from_residual-in_err-turn.result c.from_residual-in_err-turn.ensures.1 in
    let s = strength_at c.args.fixities.now in
    let make = expression_made s in
    let xs = c.as_slice-operands.result.now in
    let os = c.as_slice-operators.result.now in
    let all : make c.args.expr.now ≡ chained s [] (map make os) (map make xs) = chain_made s c.args.expr.now c.in-Chain.field-0 c.in-Chain.operands c.in-Chain.operators xs os c.in-Chain.is c.as_slice-operands.ensures c.as_slice-operators.ensures in
    rw (p.1, p.2) (fails_on c.in_err-turn.field-0.0 (turned s c.in_ok-operator.operator (reverse c.loop-index.waiting.items) c.in_ok-operand.operand) (make c.args.expr.now) c.in_err-turn.ensures
    (λ h. all ∙ sym c.loop-index.invariant ∙ turn_fails s make os xs c.loop-index.index (reverse c.loop-index.waiting.items) c.index-operands-index.result (omega arith) (omega arith) c.index-operands-index.is c.index-operators-index.result c.index-operators-index.is
    c.in_ok-operand.operand c.in_ok-operator.operator c.in_ok-operand.ensures c.in_ok-operator.ensures h))

pub expr::chain-loop-index-preserved : goal.expr::chain-loop-index-preserved
expr::chain-loop-index-preserved t c =
    let s = strength_at c.args.fixities.now in
    let make = expression_made s in
    let xs = c.as_slice-operands.result.now in
    let os = c.as_slice-operators.result.now in
    sym (turns s make os xs c.loop-index.index (reverse c.loop-index.waiting.items) c.index-operands-index.result (omega arith) (omega arith) c.index-operands-index.is c.index-operators-index.result c.index-operators-index.is
    (reverse c.turn.new.waiting.items) c.in_ok-operand.operand c.in_ok-operator.operator c.in_ok-operand.ensures c.in_ok-operator.ensures c.in_ok-turn.ensures)
    ∙ c.loop-index.invariant

pub expr::chain-returns-in_err-last : goal.expr::chain-returns-in_err-last
expr::chain-returns-in_err-last t c = λ at operands operators e.
    let p = err_from_is_err_and c.from_residual-in_err-last.result c.from_residual-in_err-last.ensures.1 in
    let s = strength_at c.args.fixities.now in
    let make = expression_made s in
    let xs = c.as_slice-operands.result.now in
    let os = c.as_slice-operators.result.now in
    let all : make c.args.expr.now ≡ chained s [] (map make os) (map make xs) = chain_made s c.args.expr.now c.in-Chain.field-0 c.in-Chain.operands c.in-Chain.operators xs os c.in-Chain.is c.as_slice-operands.ensures c.as_slice-operators.ensures in
    rw (p.1, p.2) (fails_on c.in_err-last.field-0.0 (make c.index-operands-operators.result) (make c.args.expr.now) c.in_err-last.ensures
    (λ h. all ∙ sym c.loop-index.invariant ∙ last_fails s make os xs c.loop-index.index (reverse c.loop-index.waiting.items) c.index-operands-operators.result (omega arith) (omega arith) c.index-operands-operators.is h))

pub expr::chain-returns : goal.expr::chain-returns
expr::chain-returns t c = λ at operands operators e.
    let s = strength_at c.args.fixities.now in
    let make = expression_made s in
    let xs = c.as_slice-operands.result.now in
    let os = c.as_slice-operators.result.now in
    let all : make c.args.expr.now ≡ chained s [] (map make os) (map make xs) = chain_made s c.args.expr.now c.in-Chain.field-0 c.in-Chain.operands c.in-Chain.operators xs os c.in-Chain.is c.as_slice-operands.ensures c.as_slice-operators.ensures in
    let ended : make c.args.expr.now ≡ closed (reverse c.loop-index.waiting.items) c.in_ok-last.last =
    all ∙ sym c.loop-index.invariant ∙ ends s make os xs c.loop-index.index (reverse c.loop-index.waiting.items) c.index-operands-operators.result (omega arith) (omega arith) c.index-operands-operators.is c.in_ok-last.last c.in_ok-last.ensures in
    rw ended c.close.ensures

pub expr::statements-returns-in_err-one : goal.expr::statements-returns-in_err-one
expr::statements-returns-in_err-one t c =
    let p = err_from_is_err_and c.from_residual.result c.from_residual.ensures.1 in
    let make = statement_made (strength_at c.args.fixities.now) in
    rw (p.1, p.2) (fails_on c.in_err-one.field-0.0 (make c.index-stmts-index.result) (below_of 0 (map make c.args.stmts.now)) c.in_err-one.ensures
    (λ h. sym c.loop-index.invariant ∙ statement.fail make c.args.stmts.now c.loop-index.made c.loop-index.index c.loop-index.levels c.index-stmts-index.result (omega arith) c.index-stmts-index.is h))

pub expr::statements-returns-in_err-below : goal.expr::statements-returns-in_err-below
expr::statements-returns-in_err-below t c =
    let p = err_from_is_err_and c.from_residual-in_err-below.result c.from_residual-in_err-below.ensures.1 in
    let make = statement_made (strength_at c.args.fixities.now) in
    rw (p.1, p.2) (fails_on c.in_err-below.field-0.0 (fits (suc c.loop-index.index + c.in_ok-one.one_levels)) (below_of 0 (map make c.args.stmts.now)) c.in_err-below.ensures
    (λ h. sym c.loop-index.invariant ∙ statement.deep make c.args.stmts.now c.loop-index.made c.loop-index.index c.loop-index.levels c.in_ok-one.one_levels c.index-stmts-index.result c.in_ok-one.one (omega arith) c.index-stmts-index.is c.in_ok-one.ensures h))

pub expr::statements-loop-index-preserved : goal.expr::statements-loop-index-preserved
expr::statements-loop-index-preserved t c =
    let make = statement_made (strength_at c.args.fixities.now) in
    let m : c.max-levels.result ≡ max c.loop-index.levels c.in_ok-below.field-0 = first_of (search rules, grind (arith, common_steps)) in
    ap (λ n. with_front c.push.new.self n (below_of (c.loop-index.index + 1) (map make (drop (c.loop-index.index + 1) c.args.stmts.now)))) m
    ∙ statement.step make c.args.stmts.now c.loop-index.made c.push.new.self c.loop-index.index c.loop-index.levels c.in_ok-one.one_levels c.in_ok-below.field-0 c.index-stmts-index.result c.in_ok-one.one (omega arith) c.index-stmts-index.is c.in_ok-one.ensures c.in_ok-below.ensures c.in_ok-push.ensures.ok
    ∙ c.loop-index.invariant

pub expr::statements-returns-in_err-below-2 : goal.expr::statements-returns-in_err-below-2
expr::statements-returns-in_err-below-2 t c =
    let p = err_from_is_err_and c.from_residual-in_err-below-2.result c.from_residual-in_err-below-2.ensures.1 in
    let make = statement_made (strength_at c.args.fixities.now) in
    rw (p.1, p.2) (fails_on c.in_err-below-2.field-0.0 (fits (suc (length c.args.stmts.now) + 0)) (below_of 0 (map make c.args.stmts.now)) c.in_err-below-2.ensures
    (λ h. sym c.loop-index.invariant ∙ statement.too_many make c.args.stmts.now c.loop-index.made c.loop-index.index (suc (length c.args.stmts.now) + 0) c.loop-index.levels (omega arith) (omega arith) h))

pub expr::statements-returns : goal.expr::statements-returns
expr::statements-returns t c =
    let make = statement_made (strength_at c.args.fixities.now) in
    let m : c.max.result ≡ max c.loop-index.levels c.in_ok-below-2.field-0 = first_of (search rules, grind (arith, common_steps)) in
    sym c.loop-index.invariant
    ∙ statement.done make c.args.stmts.now c.loop-index.made c.loop-index.index (suc (length c.args.stmts.now) + 0) c.loop-index.levels c.in_ok-below-2.field-0 (omega arith) (omega arith) c.in_ok-below-2.ensures
    ∙ ap (λ z. Some (c.loop-index.made, z)) (sym m) ∙ ap (λ z. Some (z, c.max.result)) (sym c.made-2.view_is)
