-- What is kept so far, before what is kept of the runs that are left, is what is kept of all.
use Rattle.std.proofs.Common.{◌≡◌, ◌≤◌, ℕ, List, Some, length}
use Rattle.rw_parser_grammar.specs.declared.lexeme.Lexeme.{Lexeme}
use Rattle.rw_parser_reading.specs.ReadProgram.{runs_at, items_at}
use Rattle.rw_parser.specs.Shallow.{kept_behind, nothing}
use Rattle.rw_parser.specs.Clauses.{ReadsClauses}
use Rattle.rw_parser.proofs.Turns.{Left}
use Rattle.rw_parser.proofs.program.read_runs.Given as goal

abbrev pub invariant-loop-run : goal.invariant-loop-run
invariant-loop-run g l = record {
  left : ReadsClauses (goal.R-post g l.clause) → (n : ℕ) (runs : List (List Lexeme × Lexeme)) → length l.tokens ≤ n → runs_at (length l.tokens) l.tokens ≡ Some runs
      → (others : List (List Lexeme × Lexeme)) × Left l.rest others × (kept_behind l.kept (items_at n others) ≡ kept_behind nothing (items_at n runs));
  shorter : length l.rest ≤ length l.tokens;
}

abbrev pub decreases-loop-run : goal.decreases-loop-run
decreases-loop-run g l = length l.rest
