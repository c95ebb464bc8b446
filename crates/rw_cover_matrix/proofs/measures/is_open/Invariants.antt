-- What the loop keeps: the row is open if the patterns that are left are wildcards.
use Rattle.std.proofs.Common.{drop}
use Rattle.rw_cover_matrix.specs.Matching.{plain_row}
use Rattle.rw_cover_matrix.specs.Columns.{IsOpen}
use Rattle.rw_cover_matrix.proofs.measures.is_open.Given as goal

abbrev pub invariant-loop-pattern : goal.invariant-loop-pattern
invariant-loop-pattern l = IsOpen (plain_row (drop l.pattern-index l.row)) → IsOpen (plain_row l.row)
