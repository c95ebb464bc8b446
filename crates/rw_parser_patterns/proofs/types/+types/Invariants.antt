use Rattle.std.proofs.Common.{◌≡◌, length, ◌+◌, ◌-◌, ◌*◌, ◌≤◌}
use Rattle.rw_parser_reading.specs.Read.{separated_at, many_at}
use Rattle.rw_parser_reading.specs.Frames.{frames_of_type, most, cut}
use Rattle.rw_parser_grammar.specs.declared.lexeme.Mark.TheVariants as m
use Rattle.rw_parser_reading.specs.ReadTypes.{begins_atype, atype_at}
use Rattle.rw_parser_patterns.specs.Given.{counted}
use Rattle.rw_parser_patterns.specs.Depth.{any_type_at}
use Rattle.rw_parser_patterns.proofs.Kept.{with_kept, with_counted, behind_arrows}
use Rattle.rw_parser_patterns.proofs.types.+types.Given as goal

abbrev pub decreases-read_atype : goal.decreases-read_atype
decreases-read_atype l = 7 * length l.tokens.now + 0

abbrev pub decreases-read_atypes : goal.decreases-read_atypes
decreases-read_atypes l = 7 * length l.tokens.now + 1

abbrev pub decreases-btype : goal.decreases-btype
decreases-btype l = 7 * length l.tokens.now + 2

abbrev pub decreases-read_type : goal.decreases-read_type
decreases-read_type l = 7 * length l.tokens.now + 3

abbrev pub decreases-types : goal.decreases-types
decreases-types l = 7 * length l.tokens.now + 4

abbrev pub decreases-some_types : goal.decreases-some_types
decreases-some_types l = 7 * length l.tokens.now + 5

abbrev pub decreases-type_group : goal.decreases-type_group
decreases-type_group l = 7 * length l.tokens.now + 6

-- what was read so far, put before what is read from here on, is what is read in all
abbrev pub invariant-read_type-loop-turn : goal.invariant-read_type-loop-turn
invariant-read_type-loop-turn l = record {
  read : behind_arrows l.sides (cut frames_of_type l.left (any_type_at l.rest)) ≡ cut frames_of_type l.room (any_type_at l.tokens);
  shorter : length l.rest + l._turn ≤ length l.tokens;
}

abbrev pub invariant-types-loop-turn : goal.invariant-types-loop-turn
invariant-types-loop-turn l = record {
  read : with_counted l.turn l.all (counted frames_of_type l.room (separated_at m.Comma any_type_at (l.turn-end - l.turn) l.rest)) ≡ counted frames_of_type l.room (separated_at m.Comma any_type_at (length l.tokens) l.tokens);
  shorter : length l.rest ≤ length l.tokens;
}

abbrev pub invariant-read_atypes-loop-turn : goal.invariant-read_atypes-loop-turn
invariant-read_atypes-loop-turn l =
    let one = atype_at any_type_at in
    record {
      read : with_kept l.all (cut (most frames_of_type) l.room (many_at begins_atype one (l._turn-end - l._turn) l.rest)) ≡ cut (most frames_of_type) l.room (many_at begins_atype one (length l.tokens) l.tokens);
      shorter : length l.rest ≤ length l.tokens;
    }
