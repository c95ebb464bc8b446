-- A tree with its chains grouped, computed part by part with its levels, where it has 512 levels at most.
use Rattle.std.specs.Prelude.{ℕ, suc, max, ◌+◌, nat_le, List, [], ◌∷◌, Option, Some, None, if◌then◌else◌}
use Rattle.rw_base.specs.declared.place.Span.{Span}
use Rattle.rw_tree.specs.declared.types.Written.{Written}
use Rattle.rw_tree.specs.declared.pattern.Pat.{Pat}
use Rattle.rw_tree.specs.declared.expr.Expr.{Expr, fold-Expr}
use Rattle.rw_tree.specs.declared.expr.Expr.TheVariants as e
use Rattle.rw_tree.specs.declared.clause.Local.{Local, fold-Local}
use Rattle.rw_tree.specs.declared.clause.Local.TheVariants as l
use Rattle.rw_tree.specs.declared.clause.Local.TheOpen.{Local-F, Rhs-F, Stmt-F, Expr-F, Alt-F, Guard-F}
use Rattle.rw_tree.specs.declared.clause.Alt.{Alt, fold-Alt}
use Rattle.rw_tree.specs.declared.clause.Rhs.{Rhs, fold-Rhs}
use Rattle.rw_tree.specs.declared.clause.Rhs.TheVariants as r
use Rattle.rw_tree.specs.declared.clause.Guard.{Guard, fold-Guard}
use Rattle.rw_tree.specs.declared.clause.Stmt.{Stmt, fold-Stmt}
use Rattle.rw_tree.specs.declared.clause.Stmt.TheVariants as s
use Rattle.rw_tree.specs.Types.{written}
use Rattle.rw_tree.specs.Patterns.{pattern, patterns}
use Rattle.rw_parser_reading.specs.Read.{◌>>=◌}
use Rattle.rw_parser_grammar.specs.Chains.{Strength}
use Rattle.rw_parser_grammar.specs.Levels.{max_levels, type_levels, pattern_levels, row_patterns_levels}
use Rattle.rw_parser_chains.specs.Grouping.{Waiting, above, closed, settled, grouped_of}

-- what is made of a tree: another and its levels, or nothing
abbrev pub Made : Type 0 → Type 0
Made T = Option (T × ℕ)

-- so many levels, where the bound allows them
unfoldable pub fits : ℕ → Option ℕ
fits n = if nat_le n max_levels then Some n else None

unfoldable pub pattern_fits : Pat Span → Option ℕ
pattern_fits pat = fits (pattern_levels (pattern (λ span. span) pat))

unfoldable pub patterns_fit : List (Pat Span) → Option ℕ
patterns_fit pats = fits (row_patterns_levels (patterns (λ span. span) pats))

unfoldable pub type_fits : Written → Option ℕ
type_fits type = fits (type_levels (written type))

-- parts beside one another: all of them, and the greatest levels
unfoldable pub all_of : {T : Type 0} → List (Made T) → Made (List T)
all_of [] = Some ([], 0)
all_of (x ∷ xs) = do
  p ← x
  q ← all_of xs
  Some (p.0 ∷ q.0, max p.1 q.1)

-- parts beside one another, each with its levels
unfoldable pub each_of : {T : Type 0} → List (Made T) → Option (List (T × ℕ))
each_of [] = Some []
each_of (x ∷ xs) = do
  p ← x
  q ← each_of xs
  Some (p ∷ q)

-- statements: each stands one level below what stands before it; so many stand before these
unfoldable pub below_of : {T : Type 0} → ℕ → List (Made T) → Made (List T)
below_of k [] = do
  n ← fits (suc k)
  Some ([], n)
below_of k (x ∷ xs) = do
  p ← x
  n ← fits (suc k + p.1)
  q ← below_of (suc k) xs
  Some (p.0 ∷ q.0, max n q.1)

module _ (strength : List ℕ → Strength) where
  abbrev pub local_step : Local-F Span (Made (Local Span)) (Made (Rhs Span)) (Made (Stmt Span)) (Made (Expr Span)) (Made (Alt Span)) (Made (Guard Span)) → Made (Local Span)
  local_step (Local-F.Sig x name type) = do
    n ← type_fits type
    m ← above n
    Some (l.Sig x name type, m)
  local_step (Local-F.Fun x name rows) = do
    q ← all_of rows
    m ← above q.1
    Some (l.Fun x name q.0, m)
  local_step (Local-F.Pattern x row) = do
    p ← row
    m ← above p.1
    Some (l.Pattern x p.0, m)

  abbrev pub rhs_step : Rhs-F Span (Made (Local Span)) (Made (Rhs Span)) (Made (Stmt Span)) (Made (Expr Span)) (Made (Alt Span)) (Made (Guard Span)) → Made (Rhs Span)
  rhs_step (Rhs-F.Plain body) = do
    p ← body
    Some (r.Plain p.0, p.1)
  rhs_step (Rhs-F.Guarded bodies) = do
    q ← all_of bodies
    Some (r.Guarded q.0, q.1)

  abbrev pub stmt_step : Stmt-F Span (Made (Local Span)) (Made (Rhs Span)) (Made (Stmt Span)) (Made (Expr Span)) (Made (Alt Span)) (Made (Guard Span)) → Made (Stmt Span)
  stmt_step (Stmt-F.Bind x pat body) = do
    n ← pattern_fits pat
    p ← body
    m ← above (max n p.1)
    Some (s.Bind x pat p.0, m)
  stmt_step (Stmt-F.«Stmt::Let» x locals) = do
    q ← all_of locals
    m ← above q.1
    Some (s.Let x q.0, m)
  stmt_step (Stmt-F.Run x body) = do
    p ← body
    m ← above p.1
    Some (s.Run x p.0, m)

  abbrev pub expr_step : Expr-F Span (Made (Local Span)) (Made (Rhs Span)) (Made (Stmt Span)) (Made (Expr Span)) (Made (Alt Span)) (Made (Guard Span)) → Made (Expr Span)
  expr_step (Expr-F.Var x name) = Some (e.Var x name, 1)
  expr_step (Expr-F.Con x name) = Some (e.Con x name, 1)
  expr_step (Expr-F.Apply x head parts) = do
    p ← head
    q ← all_of parts
    m ← above (max p.1 q.1)
    Some (e.Apply x p.0 q.0, m)
  expr_step (Expr-F.Tuple x parts) = do
    q ← all_of parts
    m ← above q.1
    Some (e.Tuple x q.0, m)
  expr_step (Expr-F.Chain x operands operators) = do
    p ← each_of operands
    q ← each_of operators
    grouped_of strength q p
  expr_step (Expr-F.Lambda x pats body) = do
    n ← patterns_fit pats
    p ← body
    m ← above (max n p.1)
    Some (e.Lambda x pats p.0, m)
  expr_step (Expr-F.«Expr::Let» x locals body) = do
    q ← all_of locals
    p ← body
    m ← above (max q.1 p.1)
    Some (e.Let x q.0 p.0, m)
  expr_step (Expr-F.If x test first second) = do
    p ← test
    q ← first
    t ← second
    m ← above (max p.1 (max q.1 t.1))
    Some (e.If x p.0 q.0 t.0, m)
  expr_step (Expr-F.Case x scrutinee rows) = do
    p ← scrutinee
    q ← all_of rows
    m ← above (max p.1 q.1)
    Some (e.Case x p.0 q.0, m)
  expr_step (Expr-F.Do x statements) = do
    q ← below_of 0 statements
    Some (e.Do x q.0, q.1)

  abbrev pub alt_step : Alt-F Span (Made (Local Span)) (Made (Rhs Span)) (Made (Stmt Span)) (Made (Expr Span)) (Made (Alt Span)) (Made (Guard Span)) → Made (Alt Span)
  alt_step a = do
    n ← patterns_fit a.pats
    p ← a.rhs
    q ← all_of a.wheres
    m ← above (max n (max p.1 q.1))
    Some (record { at = a.at; pats = a.pats; rhs = p.0; wheres = q.0 }, m)

  abbrev pub guard_step : Guard-F Span (Made (Local Span)) (Made (Rhs Span)) (Made (Stmt Span)) (Made (Expr Span)) (Made (Alt Span)) (Made (Guard Span)) → Made (Guard Span)
  guard_step g = do
    p ← g.test
    q ← g.body
    Some (record { test = p.0; body = q.0 }, max p.1 q.1)

  -- each kind of tree with its chains grouped, and its levels
  abbrev pub expression_made : Expr Span → Made (Expr Span)
  expression_made = fold-Expr Span (Made (Local Span)) (Made (Rhs Span)) (Made (Stmt Span)) (Made (Expr Span)) (Made (Alt Span)) (Made (Guard Span)) local_step rhs_step stmt_step expr_step alt_step guard_step

  abbrev pub row_made : Alt Span → Made (Alt Span)
  row_made = fold-Alt Span (Made (Local Span)) (Made (Rhs Span)) (Made (Stmt Span)) (Made (Expr Span)) (Made (Alt Span)) (Made (Guard Span)) local_step rhs_step stmt_step expr_step alt_step guard_step

  abbrev pub side_made : Rhs Span → Made (Rhs Span)
  side_made = fold-Rhs Span (Made (Local Span)) (Made (Rhs Span)) (Made (Stmt Span)) (Made (Expr Span)) (Made (Alt Span)) (Made (Guard Span)) local_step rhs_step stmt_step expr_step alt_step guard_step

  abbrev pub guard_made : Guard Span → Made (Guard Span)
  guard_made = fold-Guard Span (Made (Local Span)) (Made (Rhs Span)) (Made (Stmt Span)) (Made (Expr Span)) (Made (Alt Span)) (Made (Guard Span)) local_step rhs_step stmt_step expr_step alt_step guard_step

  abbrev pub local_made : Local Span → Made (Local Span)
  local_made = fold-Local Span (Made (Local Span)) (Made (Rhs Span)) (Made (Stmt Span)) (Made (Expr Span)) (Made (Alt Span)) (Made (Guard Span)) local_step rhs_step stmt_step expr_step alt_step guard_step

  abbrev pub statement_made : Stmt Span → Made (Stmt Span)
  statement_made = fold-Stmt Span (Made (Local Span)) (Made (Rhs Span)) (Made (Stmt Span)) (Made (Expr Span)) (Made (Alt Span)) (Made (Guard Span)) local_step rhs_step stmt_step expr_step alt_step guard_step

  -- a chain, each operand and the operator behind it made in turn
  unfoldable pub chained : List Waiting → List (Made (Expr Span)) → List (Made (Expr Span)) → Made (Expr Span)
  chained ws os [] = None
  chained ws [] (x ∷ []) = x >>= closed ws
  chained ws [] (x ∷ y ∷ ys) = None
  chained ws (o ∷ os) (x ∷ xs) = do
    y ← x
    q ← o
    p ← settled strength q ws y
    chained ((p.1, q) ∷ p.0) os xs
