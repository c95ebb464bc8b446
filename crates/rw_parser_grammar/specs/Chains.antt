-- The tree of a chain of operators (Haskell 2010 Report, sections 4.4.2 and 10.6, in this project's profile). Tighter operators group first, equal
-- ones by their common side; two of equal strength with different sides, or with none, have no tree.
use Rattle.std.specs.Prelude.{◌≡◌, ℕ, ◌||◌, ◌&&◌, nat_eq, nat_lt, Bool, true, false, List, [], ◌∷◌, ◌++◌, codes, if◌then◌else◌}
use Rattle.std.specs.List.{list_all}
use Rattle.std.specs.Str.{bytes_eq}
use Rattle.rw_base.specs.declared.place.Span.{Span}
use Rattle.rw_tree.specs.declared.decl.Side.{Side}
use Rattle.rw_tree.specs.declared.decl.Side.TheVariants as side
use Rattle.rw_tree.specs.declared.decl.Decl.{Decl}
use Rattle.rw_tree.specs.declared.decl.Decl.TheVariants.{Import, Data, Fixity, Sig, Fun}
use Rattle.rw_tree.specs.declared.expr.Expr.{Expr, out-Expr}
use Rattle.rw_tree.specs.declared.expr.Expr.TheVariants as e
use Rattle.rw_tree.specs.declared.clause.Local.TheOpen.{Expr-F}
use Rattle.rw_prelude.specs.PreludeText.{prelude}
use Rattle.rw_parser_grammar.specs.Lexemes.{span_over}

-- ---- fixities

-- the side and the strength, from 0 to 9, of an operator
abbrev pub Strength : Type 0
Strength = Side × ℕ

-- the first that is declared for a name, or `infixl 9`; the names of one declaration
abbrev pub is_named : List ℕ → List (List ℕ) → Bool
is_named name [] = false
is_named name (other ∷ others) = bytes_eq name other || is_named name others

abbrev pub strength_in : List (Decl Span) → List ℕ → Strength
strength_in [] name = (side.Left, 9)
strength_in (Fixity span at n names ∷ decls) name = if is_named name names then (at, n) else strength_in decls name
strength_in (Import span module_name ∷ decls) name = strength_in decls name
strength_in (Data span made ∷ decls) name = strength_in decls name
strength_in (Sig span names type ∷ decls) name = strength_in decls name
strength_in (Fun span fun rows ∷ decls) name = strength_in decls name

-- the strength of a name in a program: its own declarations count before those of the prelude
abbrev pub strength_of_name : List (Decl Span) → List ℕ → Strength
strength_of_name decls name = strength_in (decls ++ prelude) name

-- the name of an operator, one level of its tree
abbrev pub operator_step : {R L S E A G : Type 0} → Expr-F Span L R S E A G → List ℕ
operator_step (Expr-F.Var span name) = name
operator_step (Expr-F.Con span name) = name
operator_step _ = []

abbrev pub operator_name : Expr Span → List ℕ
operator_name o = operator_step (out-Expr Span o)

-- the span of an expression, one level of its tree
abbrev pub span_step : {R L S E A G : Type 0} → Expr-F Span L R S E A G → Span
span_step (Expr-F.Var span name) = span
span_step (Expr-F.Con span name) = span
span_step (Expr-F.Apply span head parts) = span
span_step (Expr-F.Tuple span parts) = span
span_step (Expr-F.Chain span operands operators) = span
span_step (Expr-F.Lambda span pats body) = span
span_step (Expr-F.«Expr::Let» span locals body) = span
span_step (Expr-F.If span test first second) = span
span_step (Expr-F.Case span scrutinee alternatives) = span
span_step (Expr-F.Do span statements) = span

abbrev pub expression_span : Expr Span → Span
expression_span a = span_step (out-Expr Span a)

-- ---- grouping

abbrev pub is_left : Side → Bool
is_left side.Left = true
is_left _ = false

abbrev pub is_right : Side → Bool
is_right side.Right = true
is_right _ = false

-- an operator with the strength a may stand in the left operand of one with the strength b
abbrev pub groups_left : Strength → Strength → Bool
groups_left a b = nat_lt b.1 a.1 || (nat_eq a.1 b.1 && (is_left a.0 && is_left b.0))

-- an operator with the strength a may stand in the right operand of one with the strength b
abbrev pub groups_right : Strength → Strength → Bool
groups_right a b = nat_lt b.1 a.1 || (nat_eq a.1 b.1 && (is_right a.0 && is_right b.0))

-- an operator and its two operands: `a $ b` is the application of a to b
abbrev pub operation : Expr Span → Expr Span → Expr Span → Expr Span
operation o a b =
    let span : Span = span_over (expression_span a) (expression_span b) in
    if bytes_eq (operator_name o) (codes "$") then e.Apply span a (b ∷ []) else e.Apply span o (a ∷ b ∷ [])

-- operands and the operators between them group to this tree: one operator has all others on its left and right in its operands
pub data IsGrouped (strength : List ℕ → Strength) : List (Expr Span) → List (Expr Span) → Expr Span → Type 0 where
  one_operand : (a : Expr Span) → IsGrouped strength (a ∷ []) [] a
  grouped_at : (o a b : Expr Span) (lefts rights os ps : List (Expr Span)) → IsGrouped strength lefts os a → IsGrouped strength rights ps b
      → list_all (λ p. groups_left (strength (operator_name p)) (strength (operator_name o))) os ≡ true
      → list_all (λ p. groups_right (strength (operator_name p)) (strength (operator_name o))) ps ≡ true
      → IsGrouped strength (lefts ++ rights) (os ++ o ∷ ps) (operation o a b)
