-- What the loop over types keeps.
use Rattle.std.proofs.Common.{◌≡◌, take}
use Rattle.rw_tree_copies.proofs.types.+copying.Given as goal

-- the copies so far are those of the types so far
abbrev pub invariant-copied_types-loop-written : goal.invariant-copied_types-loop-written
invariant-copied_types-loop-written l = l.copies ≡ take l.written-index l.types
