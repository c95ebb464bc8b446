-- Reading expressions and blocks of local declarations with at most so many of them inside one another, as functions on lists.
use Rattle.std.specs.Prelude.{ℕ, zero, suc, List, None}
use Rattle.rw_base.specs.declared.place.Span.{Span}
use Rattle.rw_tree.specs.declared.expr.Expr.{Expr}
use Rattle.rw_tree.specs.declared.clause.Alt.{Alt}
use Rattle.rw_tree.specs.declared.clause.Local.{Local}
use Rattle.rw_tree.specs.declared.clause.Stmt.{Stmt}
use Rattle.rw_parser_grammar.specs.declared.item.Bound.{Bound}
use Rattle.rw_parser_grammar.specs.declared.lexeme.Lexeme.{Lexeme}
use Rattle.rw_parser_reading.specs.Read.{Read}
use Rattle.rw_parser_reading.specs.ReadTypes.{type_at, pattern_at, apats_at}
use Rattle.rw_parser_reading.specs.ReadExpressions.{operand_at, closing_at, expression_over_at}
use Rattle.rw_parser_reading.specs.ReadClauses.{left_side_at, clause_at, alternative_at, alternatives_at, binding_at, local_at, locals_over_at, statement_at, statements_at}

-- with so many levels, over the readers with one less
module _ (n : ℕ) (inner : List Lexeme → Read (Expr Span)) (locals : List Lexeme → Read (List (Local Span))) where
  -- a clause
  abbrev pub clause_over : List Lexeme → Read (List ℕ × Alt Span)
  clause_over = clause_at (left_side_at (pattern_at n) (apats_at (pattern_at n))) inner locals

  -- an entry of a block of local declarations
  abbrev pub local_over : List Lexeme → Read Bound
  local_over = local_at (binding_at (pattern_at n) (apats_at (pattern_at n))) (type_at n) clause_over inner locals

  -- the alternatives of a `case`
  abbrev pub alternatives_over : List Lexeme → Read (List (Alt Span))
  alternatives_over = alternatives_at (alternative_at (pattern_at n) inner)

  module _ (lower : List Lexeme → Read (List (Local Span))) (below : List Lexeme → Read (Expr Span)) where
    -- the statements of a `do`
    abbrev pub statements_over : List Lexeme → Read (List (Stmt Span))
    statements_over = statements_at (statement_at (pattern_at n) inner lower below)

    -- an operand
    abbrev pub operand_over : List Lexeme → Read (Expr Span)
    operand_over = operand_at inner alternatives_over statements_over

    -- an expression
    abbrev pub expression_over : List Lexeme → Read (Expr Span)
    expression_over = expression_over_at operand_over (closing_at (pattern_at n) inner locals)

unfoldable mutual
  pub expression_at : ℕ → List Lexeme → Read (Expr Span)
  expression_at zero ts = None
  expression_at (suc n) ts = expression_over n (expression_at n) (locals_at n) (locals_below n) (expression_below n) ts

  pub locals_at : ℕ → List Lexeme → Read (List (Local Span))
  locals_at zero ts = None
  locals_at (suc n) ts = locals_over_at (local_over n (expression_at n) (locals_at n)) ts

  -- one level less
  pub expression_below : ℕ → List Lexeme → Read (Expr Span)
  expression_below zero ts = None
  expression_below (suc n) ts = expression_at n ts

  pub locals_below : ℕ → List Lexeme → Read (List (Local Span))
  locals_below zero ts = None
  locals_below (suc n) ts = locals_at n ts
