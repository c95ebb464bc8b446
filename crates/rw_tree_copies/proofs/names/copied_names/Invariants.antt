-- What the loop over names keeps.
use Rattle.std.proofs.Common.{◌≡◌, take}
use Rattle.rw_tree_copies.proofs.names.copied_names.Given as goal

-- the copies so far are those of the names so far
abbrev pub invariant-loop-name : goal.invariant-loop-name
invariant-loop-name l = l.copies ≡ take l.name-index l.names
