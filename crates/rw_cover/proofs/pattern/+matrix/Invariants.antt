-- What the loop over patterns keeps.
use Rattle.std.proofs.Common.{◌≡◌, take}
use Rattle.rw_tree.specs.Views.{itself}
use Rattle.rw_tree.specs.Patterns.{patterns}
use Rattle.rw_cover_matrix.specs.Matching.{plain_row}
use Rattle.rw_cover.specs.Rows.{matrix_row}
use Rattle.rw_cover.proofs.pattern.+matrix.Given as goal

-- the row so far is that of the patterns so far
abbrev pub invariant-matrix_row-loop-pattern : goal.invariant-matrix_row-loop-pattern
invariant-matrix_row-loop-pattern l = plain_row l.row ≡ matrix_row l.counts (patterns itself (take l.pattern-index l.patterns))
