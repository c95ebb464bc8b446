use Rattle.std.proofs.Common.{◌≡◌, length, ◌+◌, ◌-◌, ◌*◌, ◌≤◌}
use Rattle.rw_parser_reading.specs.Read.{separated_at, many_at}
use Rattle.rw_parser_grammar.specs.declared.lexeme.Mark.TheVariants as m
use Rattle.rw_parser_patterns.proofs.Turns.{with_front}
use Rattle.rw_parser_reading.specs.ReadTypes.{begins_apat, apat_at}
use Rattle.rw_parser_patterns.specs.Depth.{any_pattern_at}
use Rattle.rw_parser_patterns.proofs.pattern.+patterns.Given as goal

abbrev pub decreases-read_apat : goal.decreases-read_apat
decreases-read_apat l = 8 * length l.tokens.now + 0

abbrev pub decreases-read_apats : goal.decreases-read_apats
decreases-read_apats l = 8 * length l.tokens.now + 1

abbrev pub decreases-built : goal.decreases-built
decreases-built l = 8 * length l.tokens.now + 2

abbrev pub decreases-read_pat : goal.decreases-read_pat
decreases-read_pat l = 8 * length l.tokens.now + 3

abbrev pub decreases-read_patterns : goal.decreases-read_patterns
decreases-read_patterns l = 8 * length l.tokens.now + 4

abbrev pub decreases-some_patterns : goal.decreases-some_patterns
decreases-some_patterns l = 8 * length l.tokens.now + 5

abbrev pub decreases-pattern_group : goal.decreases-pattern_group
decreases-pattern_group l = 8 * length l.tokens.now + 6

abbrev pub decreases-marked_pattern : goal.decreases-marked_pattern
decreases-marked_pattern l = 8 * length l.tokens.now + 7

-- what was read so far, put before what is read from here on, is what is read in all
abbrev pub invariant-read_patterns-loop-turn : goal.invariant-read_patterns-loop-turn
invariant-read_patterns-loop-turn l =
    let one = any_pattern_at in
    record {
      read : with_front l.all (separated_at m.Comma one (l._turn-end - l._turn) l.rest) ≡ separated_at m.Comma one (length l.tokens) l.tokens;
      shorter : length l.rest ≤ length l.tokens;
    }

abbrev pub invariant-read_apats-loop-turn : goal.invariant-read_apats-loop-turn
invariant-read_apats-loop-turn l =
    let one = apat_at any_pattern_at in
    record {
      read : with_front l.all (many_at begins_apat one (l._turn-end - l._turn) l.rest) ≡ many_at begins_apat one (length l.tokens) l.tokens;
      shorter : length l.rest ≤ length l.tokens;
    }
