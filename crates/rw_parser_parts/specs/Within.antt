-- Reading expressions and blocks of local declarations with at most so many of them inside one another, as functions on lists, where there is room for
-- so many frames: a lambda, a `let` and an `if` are each a frame round what follows its arrow, its `in`, its `else`. What has no room is cut off: something
-- small stands in its place, and the tokens that follow are the right ones all the same.
use Rattle.std.specs.Prelude.{ℕ, zero, suc, pred, List, [], drop, Option, Some, None, if◌then◌else◌}
use Rattle.rw_base.specs.declared.place.Span.{Span}
use Rattle.rw_tree.specs.declared.types.Written.{Written}
use Rattle.rw_tree.specs.declared.types.Written.TheVariants as y
use Rattle.rw_tree.specs.declared.pattern.Pat.{Pat}
use Rattle.rw_tree.specs.declared.expr.Expr.{Expr}
use Rattle.rw_tree.specs.declared.expr.Expr.TheVariants as e
use Rattle.rw_tree.specs.declared.clause.Alt.{Alt}
use Rattle.rw_tree.specs.declared.clause.Local.{Local}
use Rattle.rw_tree.specs.declared.clause.Stmt.{Stmt}
use Rattle.rw_tree.specs.declared.clause.Stmt.TheVariants as s
use Rattle.rw_parser_grammar.specs.declared.item.Bound.{Bound}
use Rattle.rw_parser_grammar.specs.declared.lexeme.Mark.TheVariants as m
use Rattle.rw_parser_grammar.specs.declared.lexeme.Lexeme.{Lexeme}
use Rattle.rw_parser_grammar.specs.Lexemes.{span_of}
use Rattle.rw_parser_reading.specs.Read.{◌>>=◌, Read, sees}
use Rattle.rw_parser_reading.specs.Frames.{frames_of_type, cut}
use Rattle.rw_parser_reading.specs.ReadTypes.{apats_at}
use Rattle.rw_parser_reading.specs.ReadExpressions.{operand_at}
use Rattle.rw_parser_reading.specs.ReadClauses.{left_side_at, clause_at, alternative_at, alternatives_at, binding_at, local_at, bind_at, run_at, begins_bind, statements_at, locals_over_at}
use Rattle.rw_parser_patterns.specs.Depth.{any_type_at, any_pattern_at}
use Rattle.rw_parser_parts.specs.declared.frame.Frame.{Frame}
use Rattle.rw_parser_parts.specs.declared.frame.Step.{Step}
use Rattle.rw_parser_parts.specs.declared.frame.Step.TheVariants as step
use Rattle.rw_parser_parts.specs.Steps.{cut_off, closed, head_at, step_at}

-- ---- what has types and patterns alone

-- a type with so many arrows
abbrev pub deep_type : ℕ → Written
deep_type zero = y.Tuple []
deep_type (suc n) = y.Fun (y.Tuple []) (deep_type n)

-- a type that was kept, or one that has no room either
abbrev pub in_place : ℕ → Option Written → Written
in_place room None = deep_type room
in_place room (Some type) = type

-- a type, as the signature of a local name
unfoldable pub signature_within : ℕ → List Lexeme → Read Written
signature_within room ts = do
  p ← cut frames_of_type room (any_type_at ts)
  Some (in_place room p.0, p.1)

-- a name and its patterns, or an operator between two
abbrev pub any_left_side_at : List Lexeme → Read (List ℕ × List (Pat Span))
any_left_side_at = left_side_at any_pattern_at (apats_at any_pattern_at)

-- a pattern that takes something apart
abbrev pub any_binding_at : List Lexeme → Read (Pat Span)
any_binding_at = binding_at any_pattern_at (apats_at any_pattern_at)

-- ---- over the readers of what stands inside
module _ (inner : List Lexeme → Read (Expr Span)) where
  -- the alternatives of a `case`
  abbrev pub alternatives_within : List Lexeme → Read (List (Alt Span))
  alternatives_within = alternatives_at (alternative_at any_pattern_at inner)

  module _ (locals : List Lexeme → Read (List (Local Span))) where
    -- a clause
    abbrev pub clause_within : List Lexeme → Read (List ℕ × Alt Span)
    clause_within = clause_at any_left_side_at inner locals

    -- an entry of a block of local declarations
    abbrev pub local_within : ℕ → List Lexeme → Read Bound
    local_within room = local_at any_binding_at (signature_within room) clause_within inner locals

-- ---- statements

-- a `let` with its body
abbrev pub let_within : ℕ → Span → List (Local Span) → Expr Span → Expr Span
let_within zero span locals body = cut_off
let_within (suc room) span locals body = e.Let span locals body

module _ (room : ℕ) (inner : List Lexeme → Read (Expr Span)) (locals : List Lexeme → Read (List (Local Span))) (below : List Lexeme → Read (Expr Span)) where
  -- a `let`, which goes on to an expression where `in` follows
  unfoldable pub let_statement_within : List Lexeme → Read (Stmt Span)
  let_statement_within ts = do
    a ← locals (drop 1 ts)
    if sees m.In a.1 then (do c ← below (drop 1 a.1); Some (s.Run (span_of ts c.1) (let_within room (span_of ts c.1) a.0 c.0), c.1)) else Some (s.Let (span_of ts a.1) a.0, a.1)

  -- a statement
  unfoldable pub statement_within : List Lexeme → Read (Stmt Span)
  statement_within ts =
      if begins_bind ts then bind_at any_pattern_at inner locals below ts else (if sees m.Let ts then let_statement_within ts else run_at any_pattern_at inner locals below ts)

-- ---- expressions

-- a frame with its last part
abbrev pub closed_within : ℕ → Frame → Expr Span → List Lexeme → Expr Span
closed_within zero frame body rest = cut_off
closed_within (suc room) frame body rest = closed frame body rest

-- what was read up to its last part, and that part
abbrev pub went_on : ℕ → (List Lexeme → Read (Expr Span)) → Step × List Lexeme → Read (Expr Span)
went_on room below (step.Whole tree, rest) = Some (tree, rest)
went_on room below (step.Opens frame, rest) = below rest >>= λ b. Some (closed_within room frame b.0 b.1, b.1)

-- with so much room, over the readers with one level less
module _ (room : ℕ) (inner : List Lexeme → Read (Expr Span)) (locals : List Lexeme → Read (List (Local Span))) (lower : List Lexeme → Read (List (Local Span))) (below : List Lexeme → Read (Expr Span)) where
  -- an operand
  abbrev pub operand_within : List Lexeme → Read (Expr Span)
  operand_within = operand_at inner (alternatives_within inner) (statements_at (statement_within room inner lower below))

  -- an expression, or one up to its last part
  abbrev pub step_within : List Lexeme → Read Step
  step_within = step_at operand_within (head_at any_pattern_at inner locals)

unfoldable mutual
  pub expression_within : ℕ → ℕ → List Lexeme → Read (Expr Span)
  expression_within zero room ts = None
  expression_within (suc n) room ts =
      step_within room (expression_within n room) (locals_within n room) (locals_beneath n room) (expression_beneath n (pred room)) ts >>= λ x. went_on room (expression_within n (pred room)) x

  pub locals_within : ℕ → ℕ → List Lexeme → Read (List (Local Span))
  locals_within zero room ts = None
  locals_within (suc n) room ts = locals_over_at (local_within (expression_within n room) (locals_within n room) room) ts

  -- one level less
  pub expression_beneath : ℕ → ℕ → List Lexeme → Read (Expr Span)
  expression_beneath zero room ts = None
  expression_beneath (suc n) room ts = expression_within n room ts

  pub locals_beneath : ℕ → ℕ → List Lexeme → Read (List (Local Span))
  locals_beneath zero room ts = None
  locals_beneath (suc n) room ts = locals_within n room ts
