-- Function values that read expressions and blocks of local declarations with at most so many levels.
use Rattle.std.specs.Prelude.{ℕ, ◌≤◌, List, Result}
use Rattle.std.specs.declared.alloc.Global.{Global}
use denote.Ref.{Bor}
use Rattle.rw_base.specs.declared.place.Span.{Span}
use Rattle.rw_tree.specs.declared.expr.Expr.{Expr}
use Rattle.rw_tree.specs.declared.clause.Local.{Local}
use Rattle.rw_parser_grammar.specs.declared.lexeme.Lexeme.{Lexeme}
use Rattle.rw_parser_reading.specs.Read.{Read}
use Rattle.rw_base.specs.Answers.{Unread}
use Rattle.rw_base.specs.Answers.{Gives}
use Rattle.rw_parser_parts.specs.Within.{expression_within, locals_within}

-- the results of a function value are those of a function on lists
abbrev pub Reads : {A : Type 0} → (Bor (List Lexeme) → Result (A × Bor (List Lexeme)) Unread → Type 0) → (List Lexeme → Read A) → Type 0
Reads post at = (tokens : Bor (List Lexeme)) (r : _) → post tokens r → Gives (λ x. (x.0, x.1.now)) r (at tokens.now)

-- they may be called with so many levels or fewer, and read what the functions on lists do
pub record Nests (levels : ℕ)
    (expression_pre : Global → ℕ → ℕ → Bor (List Lexeme) → Type 0) (expression_post : Global → ℕ → ℕ → Bor (List Lexeme) → Result (Expr Span × Bor (List Lexeme)) Unread → Type 0)
    (locals_pre : Global → ℕ → ℕ → Bor (List Lexeme) → Type 0) (locals_post : Global → ℕ → ℕ → Bor (List Lexeme) → Result (List (Local Span) × Bor (List Lexeme)) Unread → Type 0)
    : Type 0 where
  pub callable : (alloc : Global) (n room : ℕ) (tokens : Bor (List Lexeme)) → n ≤ levels → expression_pre alloc n room tokens
  pub reads : (alloc : Global) (n room : ℕ) → Reads (expression_post alloc n room) (expression_within n room)
  pub locals_callable : (alloc : Global) (n room : ℕ) (tokens : Bor (List Lexeme)) → n ≤ levels → locals_pre alloc n room tokens
  pub locals_read : (alloc : Global) (n room : ℕ) → Reads (locals_post alloc n room) (locals_within n room)
