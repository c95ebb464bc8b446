-- What the loop over rows keeps, and that it ends.
use Rattle.std.proofs.Common.{◌≡◌, ◌++◌, ◌+◌, ◌<◌, ℕ, [], length, get_or, reverse}
use Rattle.rw_cover_matrix.specs.Matching.{plain_rows}
use Rattle.rw_cover_matrix.specs.Columns.{AreWithin, group, shorter_rows, column_count}
use Rattle.rw_cover_matrix.proofs.sort.sort_rows.Given as goal

-- what was put in each place so far, and behind it what the rows that are left will give, is what all rows give
abbrev pub invariant-loop-row : goal.invariant-loop-row
invariant-loop-row l = record {
  within : AreWithin (l.column + 1) (plain_rows l.left);
  count : length l.all.groups.items ≡ column_count l.column (plain_rows l.fn.rows);
  groups : (t : ℕ) → t < length l.all.groups.items → plain_rows (get_or l.all.groups.items t []) ++ group l.column t (reverse (plain_rows l.left)) ≡ group l.column t (reverse (plain_rows l.fn.rows));
  shorter : plain_rows l.all.shorter ++ shorter_rows l.column (reverse (plain_rows l.left)) ≡ shorter_rows l.column (reverse (plain_rows l.fn.rows));
}

abbrev pub decreases-loop-row : goal.decreases-loop-row
decreases-loop-row l = length l.left
