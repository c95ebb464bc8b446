use Rattle.std.proofs.Common.{◌≡◌, length}
use Rattle.rw_parser_parts.specs.Steps.{all_closed}
use Rattle.rw_parser_parts.proofs.frame.all_closed.Given as goal

-- the frames that are left, closed over what was made, are all that there were over the body
abbrev pub invariant-loop-frame : goal.invariant-loop-frame
invariant-loop-frame l = all_closed l.frames l.made l.rest ≡ all_closed l.fn.frames l.fn.body l.rest

abbrev pub decreases-loop-frame : goal.decreases-loop-frame
decreases-loop-frame l = length l.frames
