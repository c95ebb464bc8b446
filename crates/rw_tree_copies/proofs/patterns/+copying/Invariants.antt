-- What the loop over patterns keeps.
use Rattle.std.proofs.Common.{◌≡◌, take}
use Rattle.rw_tree_copies.proofs.patterns.+copying.Given as goal

-- the copies so far are those of the patterns so far
abbrev pub invariant-copied_patterns-loop-pattern : goal.invariant-copied_patterns-loop-pattern
invariant-copied_patterns-loop-pattern g l = l.copies ≡ take l.pattern-index l.patterns
