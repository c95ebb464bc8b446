-- What the loop over rows keeps.
use Rattle.std.proofs.Common.{◌≡◌, drop}
use Rattle.rw_cover_matrix.specs.Matching.{plain_rows}
use Rattle.rw_cover_matrix.specs.Columns.{column_count}
use Rattle.rw_cover_matrix.proofs.measures.column_count.Given as goal

-- the rows that are left say the number
abbrev pub invariant-loop-row : goal.invariant-loop-row
invariant-loop-row l = column_count l.column (plain_rows (drop l.row-index l.rows)) ≡ column_count l.column (plain_rows l.rows)
