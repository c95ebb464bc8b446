-- Function values that read clauses.
use Rattle.std.specs.Prelude.{ℕ, ◌≤◌, List, length, Option, Result}
use denote.Ref.{Bor}
use Rattle.rw_base.specs.declared.place.Span.{Span}
use Rattle.rw_tree.specs.declared.clause.Alt.{Alt}
use Rattle.rw_parser_grammar.specs.declared.lexeme.Lexeme.{Lexeme}
use Rattle.rw_parser_reading.specs.Frames.{frames_of_row, cut}
use Rattle.rw_parser_grammar.specs.Levels.{max_levels}
use Rattle.rw_parser_reading.specs.ReadLevels.{clause_over, expression_at, locals_at}
use Rattle.rw_base.specs.Answers.{Unread}
use Rattle.rw_base.specs.Answers.{Gives}

-- the frames of a clause
abbrev pub frames_of_clause : List ℕ × Alt Span → ℕ
frames_of_clause made = frames_of_row made.1

-- the results of a function value are clauses, kept where they have 512 frames at most
abbrev pub ReadsClauses : (Bor (List Lexeme) → Result (Option (List ℕ × Alt Span) × Bor (List Lexeme)) Unread → Type 0) → Type 0
ReadsClauses post = (tokens : Bor (List Lexeme)) (r : _) → post tokens r → (n : ℕ) → length tokens.now ≤ n → Gives (λ x. (x.0, x.1.now)) r (cut frames_of_clause max_levels (clause_over n (expression_at n) (locals_at n) tokens.now))
