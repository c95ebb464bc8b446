-- What the loop over what is owed keeps, and that it ends.
use Rattle.std.proofs.Common.{◌∷◌, []}
use Rattle.rw_cover_matrix.specs.Matching.{plain_rows}
use Rattle.rw_cover_matrix.specs.Owing.{StandFor, owed_in, owed_weight}
use Rattle.rw_cover_matrix.proofs.decide.covers.Given as goal

-- what is owed stands for the rows
abbrev pub invariant-loop-last : goal.invariant-loop-last
invariant-loop-last l = StandFor (plain_rows l.fn.rows ∷ []) (owed_in l.owed.items)

abbrev pub decreases-loop-last : goal.decreases-loop-last
decreases-loop-last l = owed_weight l.owed.items
