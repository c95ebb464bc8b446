-- The tokens so far, put before what the rest makes of so many open braces, are what all tokens make.
use Rattle.std.proofs.Common.{◌≡◌, ◌≤◌}
use Rattle.rw_parser_reading.specs.ReadProgram.{run_at}
use Rattle.rw_parser.proofs.Runs.{left}
use Rattle.rw_parser.proofs.run.run_length.Given as goal

abbrev pub invariant-loop-index : goal.invariant-loop-index
invariant-loop-index l = record {
  left : left l.tokens l.index l.depth ≡ run_at 0 l.tokens;
  within : l.depth ≤ l.index;
}
