-- What the loop over guards keeps.
use Rattle.std.proofs.Common.{◌≡◌, length, ◌-◌}
use Rattle.rw_parser_reading.specs.Read.{sees, many_at}
use Rattle.rw_parser_grammar.specs.declared.lexeme.Mark.TheVariants as m
use Rattle.rw_parser_reading.specs.ReadClauses.{guard_at}
use Rattle.rw_parser_patterns.proofs.Turns.{with_front}
use Rattle.rw_parser_parts.specs.Within.{expression_within}
use Rattle.rw_parser_clauses.proofs.inside.Inside.guards.Given as goal

-- what was read so far, put before what is read from here on, is what is read in all
abbrev pub invariant-loop-turn : goal.invariant-loop-turn
invariant-loop-turn g l =
    let one = guard_at l.arrow (expression_within l.self.levels l.self.room) in
    with_front l.all (many_at (sees m.Bar) one (l._turn-end - l._turn) l.rest) ≡ many_at (sees m.Bar) one (length l.tokens) l.tokens
