-- What the loop keeps.
use Rattle.std.proofs.Common.{◌≡◌, [], replicate}
use Rattle.rw_cover_matrix.proofs.sort.no_groups.Given as goal

-- so many groups without rows so far
abbrev pub invariant-loop-place : goal.invariant-loop-place
invariant-loop-place l = l.groups.items ≡ replicate l._place []
