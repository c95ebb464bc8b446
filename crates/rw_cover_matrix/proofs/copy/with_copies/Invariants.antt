-- What the loop over rows keeps.
use Rattle.std.proofs.Common.{◌≡◌, ◌++◌, take}
use Rattle.rw_cover_matrix.proofs.copy.with_copies.Given as goal

-- the rows, and behind them copies of the others so far
abbrev pub invariant-loop-other : goal.invariant-loop-other
invariant-loop-other l = l.all ≡ l.fn.rows ++ take l.other-index l.others
