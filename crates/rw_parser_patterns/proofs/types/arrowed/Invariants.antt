use Rattle.std.proofs.Common.{◌≡◌, length}
use Rattle.rw_parser_patterns.specs.Given.{arrowed}
use Rattle.rw_parser_patterns.proofs.types.arrowed.Given as goal

-- the types that are left, before what was made, are all that there were
abbrev pub invariant-loop-side : goal.invariant-loop-side
invariant-loop-side l = arrowed l.sides l.made ≡ arrowed l.fn.sides l.fn.last

abbrev pub decreases-loop-side : goal.decreases-loop-side
decreases-loop-side l = length l.sides
