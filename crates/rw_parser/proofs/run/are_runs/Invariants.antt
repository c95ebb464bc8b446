-- The tokens from here on are runs where all are.
use Rattle.std.proofs.Common.{◌≡◌, ◌-◌, length, is_some}
use Rattle.rw_parser_reading.specs.ReadProgram.{runs_at}
use Rattle.rw_parser.proofs.run.are_runs.Given as goal

abbrev pub invariant-loop-turn : goal.invariant-loop-turn
invariant-loop-turn l = is_some (runs_at (l._turn-end - l._turn) l.rest) ≡ is_some (runs_at (length l.tokens) l.tokens)
