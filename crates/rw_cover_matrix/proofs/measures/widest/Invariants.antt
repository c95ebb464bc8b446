-- What the loop over rows keeps.
use Rattle.std.proofs.Common.{take}
use Rattle.rw_cover_matrix.specs.Matching.{plain_rows}
use Rattle.rw_cover_matrix.proofs.Plains.{IsWidth}
use Rattle.rw_cover_matrix.proofs.measures.widest.Given as goal

-- it is the width of the rows so far
abbrev pub invariant-loop-row : goal.invariant-loop-row
invariant-loop-row l = IsWidth l.width (plain_rows (take l.row-index l.rows))
