-- The most so far and the most of those to come make the most of all.
use Rattle.std.proofs.Common.{◌≡◌, min, max, drop}
use Rattle.rw_parser_reading.specs.Frames.{most, frames_of_type}
use Rattle.rw_parser_frames.proofs.types.+types.Given as goal

abbrev pub invariant-types_frames-loop-written : goal.invariant-types_frames-loop-written
invariant-types_frames-loop-written l = max l.frames (min l.bound (most frames_of_type (drop l.written-index l.types))) ≡ min l.bound (most frames_of_type l.types)
