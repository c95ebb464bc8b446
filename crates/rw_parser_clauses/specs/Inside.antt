-- What is read where expressions and blocks inside have at most so many levels, and room for so many frames, as functions on lists.
use Rattle.std.specs.Prelude.{ℕ, pred, List}
use Rattle.rw_base.specs.declared.place.Span.{Span}
use Rattle.rw_tree.specs.declared.expr.Expr.{Expr}
use Rattle.rw_tree.specs.declared.clause.Alt.{Alt}
use Rattle.rw_tree.specs.declared.clause.Stmt.{Stmt}
use Rattle.rw_parser_grammar.specs.declared.item.Bound.{Bound}
use Rattle.rw_parser_grammar.specs.declared.lexeme.Lexeme.{Lexeme}
use Rattle.rw_parser_reading.specs.Read.{Read}
use Rattle.rw_parser_parts.specs.declared.frame.Head.{Head}
use Rattle.rw_parser_parts.specs.declared.frame.Step.{Step}
use Rattle.rw_parser_patterns.specs.Depth.{any_pattern_at}
use Rattle.rw_parser_parts.specs.Steps.{head_at}
use Rattle.rw_parser_parts.specs.Within.{clause_within, local_within, statement_within, operand_within, step_within, expression_within, locals_within, expression_beneath, locals_beneath}

module _ (levels room : ℕ) where
  -- a clause
  abbrev pub clause_inside : List Lexeme → Read (List ℕ × Alt Span)
  clause_inside = clause_within (expression_within levels room) (locals_within levels room)

  -- an entry of a block of local declarations
  abbrev pub local_inside : List Lexeme → Read Bound
  local_inside = local_within (expression_within levels room) (locals_within levels room) room

  -- a statement
  abbrev pub statement_inside : List Lexeme → Read (Stmt Span)
  statement_inside = statement_within room (expression_within levels room) (locals_beneath levels room) (expression_beneath levels (pred room))

  -- an operand
  abbrev pub operand_inside : List Lexeme → Read (Expr Span)
  operand_inside = operand_within room (expression_within levels room) (locals_within levels room) (locals_beneath levels room) (expression_beneath levels (pred room))

  -- a lambda, a `let` or an `if` up to its last part
  abbrev pub head_inside : List Lexeme → Read Head
  head_inside = head_at any_pattern_at (expression_within levels room) (locals_within levels room)

  -- an expression, or one up to its last part
  abbrev pub step_inside : List Lexeme → Read Step
  step_inside = step_within room (expression_within levels room) (locals_within levels room) (locals_beneath levels room) (expression_beneath levels (pred room))
