use Rattle.std.proofs.Common.{◌≡◌, List, length, ◌-◌}
use Rattle.rw_parser_grammar.specs.declared.lexeme.Lexeme.{Lexeme}
use Rattle.rw_parser_reading.specs.Read.{Read, entries_at}
use Rattle.rw_parser_patterns.proofs.Turns.{with_front}
use Rattle.rw_parser_parts.specs.Nests.{Reads}
use Rattle.rw_parser_parts.proofs.block.entries.Given as goal

-- what was read so far, put before what is read from here on, is what is read in all
abbrev pub invariant-loop-turn : goal.invariant-loop-turn
invariant-loop-turn g l = (at : List Lexeme → Read _) → Reads (goal.R-post g l.one) at → with_front l.all (entries_at at (l._turn-end - l._turn) l.rest) ≡ entries_at at (length l.tokens) l.tokens
