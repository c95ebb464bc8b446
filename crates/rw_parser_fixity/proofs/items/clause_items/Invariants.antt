-- What the clauses so far say of all of them.
use Rattle.rw_parser_chains.specs.Fixities.{strength_at}
use Rattle.rw_parser_fixity.proofs.Listed.{RowsSoFar}
use Rattle.rw_parser_fixity.proofs.items.clause_items.Given as goal

abbrev pub invariant-loop-row : goal.invariant-loop-row
invariant-loop-row l = RowsSoFar (strength_at l.fixities) l.rows l.made l.row-index
