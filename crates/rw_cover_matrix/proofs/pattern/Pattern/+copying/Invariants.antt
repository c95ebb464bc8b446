-- What the loop over a list of patterns keeps.
use Rattle.std.proofs.Common.{◌≡◌, take}
use Rattle.rw_cover_matrix.proofs.pattern.Pattern.+copying.Given as goal

-- the copies so far are those of the patterns so far
abbrev pub invariant-copied_all-loop-pattern : goal.invariant-copied_all-loop-pattern
invariant-copied_all-loop-pattern l = l.copies ≡ take l.pattern-index l.patterns
