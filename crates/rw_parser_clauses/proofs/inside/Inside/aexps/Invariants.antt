-- What the loop over arguments keeps.
use Rattle.std.proofs.Common.{◌≡◌, length, ◌-◌}
use Rattle.rw_parser_reading.specs.Read.{many_at}
use Rattle.rw_parser_reading.specs.ReadExpressions.{begins_aexp, aexp_at}
use Rattle.rw_parser_patterns.proofs.Turns.{with_front}
use Rattle.rw_parser_parts.specs.Within.{expression_within}
use Rattle.rw_parser_clauses.proofs.inside.Inside.aexps.Given as goal

-- what was read so far, put before what is read from here on, is what is read in all
abbrev pub invariant-loop-turn : goal.invariant-loop-turn
invariant-loop-turn g l =
    let one = aexp_at (expression_within l.self.levels l.self.room) in
    with_front l.all (many_at begins_aexp one (l._turn-end - l._turn) l.rest) ≡ many_at begins_aexp one (length l.tokens) l.tokens
