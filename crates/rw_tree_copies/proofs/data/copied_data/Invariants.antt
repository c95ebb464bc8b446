-- What the loop over constructors keeps.
use Rattle.std.proofs.Common.{◌≡◌, take}
use Rattle.rw_tree_copies.proofs.data.copied_data.Given as goal

-- the copies so far are those of the constructors so far
abbrev pub invariant-loop-constructor : goal.invariant-loop-constructor
invariant-loop-constructor l = l.constructors ≡ take l.constructor-index l.constructor-items
