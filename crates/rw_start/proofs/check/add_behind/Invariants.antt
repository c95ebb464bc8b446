-- The places so far, before those that are left, are all.
use Rattle.std.proofs.Common.{◌≡◌, ◌++◌, drop}
use Rattle.rw_start.proofs.check.add_behind.Given as goal

abbrev pub invariant-loop-at : goal.invariant-loop-at
invariant-loop-at l = l.places.items ++ drop l.at l.begins ≡ l.fn.places.items ++ drop 64 l.begins
