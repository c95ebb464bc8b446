-- The tree of a chain of operators, found from left to right: what waits for its right operand stands on a stack, and the levels of a node are
-- counted before it is made (Haskell 2010 Report, section 10.6).
use Rattle.std.specs.Prelude.{ℕ, suc, max, nat_lt, List, [], ◌∷◌, Option, Some, None, codes, if◌then◌else◌}
use Rattle.std.specs.Str.{bytes_eq}
use Rattle.rw_base.specs.declared.place.Span.{Span}
use Rattle.rw_tree.specs.declared.expr.Expr.{Expr}
use Rattle.rw_tree.specs.declared.expr.Expr.TheVariants as e
use Rattle.rw_tree.specs.Trees.{expression}
use Rattle.rw_parser_grammar.specs.Lexemes.{span_over}
use Rattle.rw_parser_reading.specs.Read.{◌>>=◌}
use Rattle.rw_parser_grammar.specs.Levels.{max_levels, expression_levels}
use Rattle.rw_parser_grammar.specs.Chains.{Strength, operator_name, expression_span, groups_left, groups_right, operation}

-- how many levels a tree has
unfoldable pub levels_of : Expr Span → ℕ
levels_of a = expression_levels (expression (λ span. span) a)

-- a tree and how many levels it has
abbrev pub Counted : Type 0
Counted = Expr Span × ℕ

abbrev pub counted : Expr Span → Counted
counted a = (a, levels_of a)

-- one level more, where the bound allows it
unfoldable pub above : ℕ → Option ℕ
above n = if nat_lt n max_levels then Some (suc n) else None

-- an operator and its two operands as one node
unfoldable pub operated : Counted → Counted → Counted → Option Counted
operated o a b = do
  n ← above (if bytes_eq (operator_name o.0) (codes "$") then max a.1 b.1 else max o.1 (max a.1 b.1))
  Some (operation o.0 a.0 b.0, n)

-- the two kinds of node: `a $ b`, and any other operator
unfoldable pub applied_node : Counted → Counted → Option Counted
applied_node a b = do
  n ← above (max a.1 b.1)
  Some (e.Apply (span_over (expression_span a.0) (expression_span b.0)) a.0 (b.0 ∷ []), n)

unfoldable pub called_node : Counted → Counted → Counted → Option Counted
called_node o a b = do
  n ← above (max o.1 (max a.1 b.1))
  Some (e.Apply (span_over (expression_span a.0) (expression_span b.0)) o.0 (a.0 ∷ b.0 ∷ []), n)

-- an operand and the operator behind it, which wait for the operator's right operand
abbrev pub Waiting : Type 0
Waiting = Counted × Counted

-- behind the last operand
unfoldable pub closed : List Waiting → Counted → Option Counted
closed [] b = Some b
closed (w ∷ ws) b = operated w.1 w.0 b >>= closed ws

module _ (strength : List ℕ → Strength) where
  abbrev pub strength_of : Counted → Strength
  strength_of o = strength (operator_name o.0)

  -- what waits in front of the next operator, the last first, and the operand between: what is tighter than the next operator takes it
  unfoldable pub settled : Counted → List Waiting → Counted → Option (List Waiting × Counted)
  settled next [] b = Some ([], b)
  settled next (w ∷ ws) b =
      if groups_left (strength_of w.1) (strength_of next) then (operated w.1 w.0 b >>= settled next ws)
      else (if groups_right (strength_of next) (strength_of w.1) then Some (w ∷ ws, b) else None)

  -- operators and operands that are left, the first operand in front of the first operator
  unfoldable pub grouped_from : List Waiting → List Counted → List Counted → Option Counted
  grouped_from ws os [] = None
  grouped_from ws [] (x ∷ []) = closed ws x
  grouped_from ws [] (x ∷ y ∷ ys) = None
  grouped_from ws (o ∷ os) (x ∷ xs) = do
    p ← settled o ws x
    grouped_from ((p.1, o) ∷ p.0) os xs

  -- the tree of operators and operands
  abbrev pub grouped_of : List Counted → List Counted → Option Counted
  grouped_of os xs = grouped_from [] os xs
