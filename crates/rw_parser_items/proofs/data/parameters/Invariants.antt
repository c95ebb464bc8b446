use Rattle.std.proofs.Common.{◌≡◌, length, ◌-◌}
use Rattle.rw_parser_reading.specs.Read.{many_at, begins_variable}
use Rattle.rw_parser_patterns.proofs.Turns.{with_front}
use Rattle.rw_parser_items.specs.Named.{parameter_at}
use Rattle.rw_parser_items.proofs.data.parameters.Given as goal

-- what was read so far, put before what is read from here on, is what is read in all
abbrev pub invariant-loop-turn : goal.invariant-loop-turn
invariant-loop-turn l = with_front l.all (many_at begins_variable parameter_at (l._turn-end - l._turn) l.rest) ≡ many_at begins_variable parameter_at (length l.tokens) l.tokens
