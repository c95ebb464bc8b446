-- What the loops over the parts of a tree keep: what was made so far, put before what is made of the rest, is what is made of all.
use Rattle.std.proofs.Common.{◌≡◌, ◌+◌, [], length, map, drop, reverse}
use Rattle.rw_parser_chains.specs.Fixities.{strength_at}
use Rattle.rw_parser_chains.specs.Resolving.{all_of, below_of, chained, expression_made, statement_made, row_made, guard_made, local_made}
use Rattle.rw_parser_chains.proofs.Turns.{with_front}
use Rattle.rw_parser_fixity.proofs.+resolving.Given as goal

abbrev pub invariant-expr::expressions-loop-expr : goal.invariant-expr::expressions-loop-expr
invariant-expr::expressions-loop-expr l = with_front l.made l.levels (all_of (map (expression_made (strength_at l.fixities)) (drop l.expr-index l.exprs))) ≡ all_of (map (expression_made (strength_at l.fixities)) l.exprs)

abbrev pub invariant-expr::statements-loop-index : goal.invariant-expr::statements-loop-index
invariant-expr::statements-loop-index l = with_front l.made l.levels (below_of l.index (map (statement_made (strength_at l.fixities)) (drop l.index l.stmts))) ≡ below_of 0 (map (statement_made (strength_at l.fixities)) l.stmts)

abbrev pub invariant-expr::chain-loop-index : goal.invariant-expr::chain-loop-index
invariant-expr::chain-loop-index l =
    chained (strength_at l.fixities) (reverse l.waiting.items) (map (expression_made (strength_at l.fixities)) (drop l.index l.operators)) (map (expression_made (strength_at l.fixities)) (drop l.index l.operands))
    ≡ chained (strength_at l.fixities) [] (map (expression_made (strength_at l.fixities)) l.operators) (map (expression_made (strength_at l.fixities)) l.operands)

abbrev pub invariant-clause::clauses-loop-row : goal.invariant-clause::clauses-loop-row
invariant-clause::clauses-loop-row l = with_front l.made l.levels (all_of (map (row_made (strength_at l.fixities)) (drop l.row-index l.rows))) ≡ all_of (map (row_made (strength_at l.fixities)) l.rows)

abbrev pub invariant-clause::guards-loop-body : goal.invariant-clause::guards-loop-body
invariant-clause::guards-loop-body l = with_front l.made l.levels (all_of (map (guard_made (strength_at l.fixities)) (drop l.body-index l.bodies))) ≡ all_of (map (guard_made (strength_at l.fixities)) l.bodies)

abbrev pub invariant-clause::locals-loop-binding : goal.invariant-clause::locals-loop-binding
invariant-clause::locals-loop-binding l = with_front l.made l.levels (all_of (map (local_made (strength_at l.fixities)) (drop l.binding-index l.bindings))) ≡ all_of (map (local_made (strength_at l.fixities)) l.bindings)
