-- What the loop keeps: the places so far stand behind the old ones.
use Rattle.std.proofs.Common.{◌≡◌, ◌++◌, take}
use Rattle.rw_scope_groups.proofs.owners.add_slice.Given as goal

abbrev pub invariant-loop-place : goal.invariant-loop-place
invariant-loop-place l = l.places ≡ l.fn.places ++ take l.place-index l.more
