-- What the loop over clauses keeps.
use Rattle.std.proofs.Common.{◌≡◌, map, take}
use Rattle.rw_tree.specs.Views.{itself}
use Rattle.rw_tree.specs.Trees.{alternative_of}
use Rattle.rw_cover_matrix.specs.Matching.{plain_rows}
use Rattle.rw_cover.specs.Rows.{counted_rows}
use Rattle.rw_cover.proofs.clause.counted_rows.Given as goal

-- the rows so far are those of the clauses so far
abbrev pub invariant-loop-clause : goal.invariant-loop-clause
invariant-loop-clause l = plain_rows l.rows ≡ counted_rows l.counts l.known (map (alternative_of itself) (take l.clause-index l.clauses))
