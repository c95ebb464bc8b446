use Rattle.std.proofs.Common.{◌≡◌, length, ◌-◌, ◌≤◌}
use Rattle.rw_parser_reading.specs.Read.{separated_at}
use Rattle.rw_parser_grammar.specs.declared.lexeme.Mark.TheVariants as m
use Rattle.rw_parser_patterns.proofs.Turns.{with_front}
use Rattle.rw_parser_items.specs.Named.{named_at}
use Rattle.rw_parser_items.proofs.list.names.Given as goal

-- what was read so far, put before what is read from here on, is what is read in all
abbrev pub invariant-loop-turn : goal.invariant-loop-turn
invariant-loop-turn l = record {
  read : with_front l.all (separated_at m.Comma (named_at l.which) (l._turn-end - l._turn) l.rest) ≡ separated_at m.Comma (named_at l.which) (length l.tokens) l.tokens;
  shorter : length l.rest ≤ length l.tokens;
}
