-- Levels go down, and what the loop over frames keeps.
use Rattle.std.proofs.Common.{◌≡◌, ◌-◌, true}
use Rattle.rw_parser_parts.specs.Within.{expression_within}
use Rattle.rw_parser_parts.proofs.Frames.{under}
use Rattle.rw_parser_clauses.proofs.nested.+nested.Given as goal

abbrev pub decreases-expression_within : goal.decreases-expression_within
decreases-expression_within l = l.levels

abbrev pub decreases-locals_within : goal.decreases-locals_within
decreases-locals_within l = l.levels

-- what is read from here on, under the frames so far, is what is read in all; a frame had no room only where none is left
abbrev pub invariant-expression_within-loop-turn : goal.invariant-expression_within-loop-turn
invariant-expression_within-loop-turn l = record {
  read : under l.frames l.is_cut (expression_within (l.levels - l.turn) l.left l.rest) ≡ expression_within l.levels l.room l.tokens;
  cut : l.is_cut ≡ true → l.left ≡ 0;
}
