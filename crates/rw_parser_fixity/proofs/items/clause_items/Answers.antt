-- One clause more at each turn.
use Rattle.std.proofs.Common.{◌≡◌, ◌≤◌, ◌+◌, sym, subst, arith, map}
use Rattle.std.proofs.lemmas.Result.{err_from_is_err_and}
use Rattle.rw_base.specs.declared.place.Span.{Span}
use Rattle.rw_tree.specs.declared.clause.Alt.{out-Alt}
use Rattle.rw_tree.specs.Trees.{alternative_of}
use Rattle.rw_parser_grammar.specs.Levels.{max_levels, alternative_levels, rows_levels}
use Rattle.rw_parser_grammar.specs.Resolved.{IsRowResolved, AreRowsResolved}
use Rattle.rw_parser_grammar.specs.Resolution.{IsRowBroken, FirstRowBroken}
use Rattle.rw_parser_chains.specs.Fixities.{strength_at}
use Rattle.rw_parser_fixity.proofs.Listed.{RowsSoFar, broken_of, no_rows, row_broken, row_made, rows_made}
use Rattle.rw_parser_fixity.proofs.items.clause_items.Goals as goal

pub loop-row-init : goal.loop-row-init
loop-row-init c = let s = strength_at c.args.fixities.now in subst (λ z. RowsSoFar s c.args.rows.now z 0) (sym c.new-made.ensures) (no_rows s c.args.rows.now)

pub returns-in_err-clause_item : goal.returns-in_err-clause_item
returns-in_err-clause_item c =
    let p = err_from_is_err_and c.from_residual.result c.from_residual.ensures.1 in
    let s = strength_at c.args.fixities.now in
    rw (p.1, p.2) (broken_of (λ made. IsRowResolved s c.row-item.result made × (alternative_levels (alternative_of (λ span. span) made) + 1 ≤ max_levels))
    (λ made. AreRowsResolved s c.args.rows.now made × (rows_levels (map (alternative_of (λ span. span)) made) + 1 ≤ max_levels))
    (λ at. IsRowBroken s c.row-item.result × (at ≡ (out-Alt Span c.row-item.result).at.first)) (FirstRowBroken s c.args.rows.now)
    (λ place b. subst (FirstRowBroken s c.args.rows.now) (sym b.1) (row_broken s c.args.rows.now c.loop-row.made c.loop-row.row-index c.row-item.result (omega arith) c.row-item.is c.loop-row.invariant b.0))
    c.in_err-clause_item.field-0.0 c.in_err-clause_item.ensures)

pub loop-row-preserved : goal.loop-row-preserved
loop-row-preserved c =
    let h = c.in_ok-clause_item.ensures in
    row_made (strength_at c.args.fixities.now) c.args.rows.now c.loop-row.made c.loop-row.row-index c.row-item.result (omega arith) c.row-item.is c.loop-row.invariant c.push.new.self c.in_ok-clause_item.field-0 c.in_ok-push.ensures.ok h.0 h.1

pub returns : goal.returns
returns c = rows_made (strength_at c.args.fixities.now) c.args.rows.now c.loop-row.made c.loop-row.row-index (omega arith) c.loop-row.invariant
