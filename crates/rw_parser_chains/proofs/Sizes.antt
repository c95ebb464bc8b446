-- How many levels each variant of each tree has.
use Rattle.std.proofs.Common.{◌≡◌, ◌∙◌, ℕ, suc, max, refl, ap, List, [], ◌∷◌, map}
use Rattle.rw_base.specs.declared.place.Span.{Span}
use Rattle.rw_tree.specs.declared.types.Written.{Written}
use Rattle.rw_tree.specs.declared.pattern.Pat.{Pat}
use Rattle.rw_tree.specs.declared.expr.Expr.{Expr}
use Rattle.rw_tree.specs.declared.expr.Expr.TheVariants as expr
use Rattle.rw_tree.specs.declared.clause.Local.{Local}
use Rattle.rw_tree.specs.declared.clause.Local.TheVariants as local
use Rattle.rw_tree.specs.declared.clause.Alt.{Alt}
use Rattle.rw_tree.specs.declared.clause.Guard.{Guard}
use Rattle.rw_tree.specs.declared.clause.Rhs.{Rhs}
use Rattle.rw_tree.specs.declared.clause.Rhs.TheVariants as rhs
use Rattle.rw_tree.specs.declared.clause.Stmt.{Stmt}
use Rattle.rw_tree.specs.declared.clause.Stmt.TheVariants as stmt
use Rattle.rw_tree.specs.Types.{written}
use Rattle.rw_tree.specs.Patterns.{pattern, patterns}
use Rattle.rw_tree.specs.Trees.{expression, alternative_of, right_side, guarded, local_binding, statement, expression_parts, alternative_parts, body_parts, binding_parts, statement_parts}
use Rattle.rw_tree.proofs.Plains as plain
use Rattle.rw_parser_grammar.specs.Levels.{type_levels, pattern_levels, row_patterns_levels, expression_levels, expressions_levels, alternative_levels, alternatives_levels, side_levels, body_levels, bodies_levels, binding_levels, bindings_levels, statement_levels, statements_levels}
use Rattle.rw_parser_chains.specs.Grouping.{levels_of}

abbrev pub type_size : Written → ℕ
type_size type = type_levels (written type)

abbrev pub pattern_size : Pat Span → ℕ
pattern_size pat = pattern_levels (pattern (λ span. span) pat)

abbrev pub patterns_size : List (Pat Span) → ℕ
patterns_size pats = row_patterns_levels (patterns (λ span. span) pats)

-- of each kind of tree, and of lists of them
unfoldable pub row_size : Alt Span → ℕ
row_size row = alternative_levels (alternative_of (λ span. span) row)

unfoldable pub side_size : Rhs Span → ℕ
side_size rhs = side_levels (right_side (λ span. span) rhs)

unfoldable pub guard_size : Guard Span → ℕ
guard_size guard = body_levels (guarded (λ span. span) guard)

unfoldable pub local_size : Local Span → ℕ
local_size binding = binding_levels (local_binding (λ span. span) binding)

unfoldable pub statement_size : Stmt Span → ℕ
statement_size stmt = statement_levels (statement (λ span. span) stmt)

abbrev pub all_size : {T : Type 0} → (T → ℕ) → List T → ℕ
all_size size [] = 0
all_size size (x ∷ xs) = max (size x) (all_size size xs)

abbrev pub below_size : {T : Type 0} → (T → ℕ) → List T → ℕ
below_size size [] = 1
below_size size (x ∷ xs) = suc (max (size x) (below_size size xs))

expressions_sizes : (xs : List (Expr Span)) → expressions_levels (expression_parts (map (expression (λ span. span)) xs)) ≡ all_size levels_of xs
unfolding levels_of
expressions_sizes [] = refl
expressions_sizes (x ∷ xs) = ap (max (levels_of x)) (expressions_sizes xs)

rows_sizes : (xs : List (Alt Span)) → alternatives_levels (alternative_parts (map (alternative_of (λ span. span)) xs)) ≡ all_size row_size xs
unfolding row_size
rows_sizes [] = refl
rows_sizes (x ∷ xs) = ap (max (row_size x)) (rows_sizes xs)

guards_sizes : (xs : List (Guard Span)) → bodies_levels (body_parts (map (guarded (λ span. span)) xs)) ≡ all_size guard_size xs
unfolding guard_size
guards_sizes [] = refl
guards_sizes (x ∷ xs) = ap (max (guard_size x)) (guards_sizes xs)

locals_sizes : (xs : List (Local Span)) → bindings_levels (binding_parts (map (local_binding (λ span. span)) xs)) ≡ all_size local_size xs
unfolding local_size
locals_sizes [] = refl
locals_sizes (x ∷ xs) = ap (max (local_size x)) (locals_sizes xs)

statements_sizes : (xs : List (Stmt Span)) → statements_levels (statement_parts (map (statement (λ span. span)) xs)) ≡ below_size statement_size xs
unfolding statement_size
statements_sizes [] = refl
statements_sizes (x ∷ xs) = ap (λ n. suc (max (statement_size x) n)) (statements_sizes xs)

pub levels-Var : (x : Span) (name : List ℕ) → levels_of (expr.Var x name) ≡ 1
unfolding guard_size levels_of local_size row_size statement_size
levels-Var x name = ap expression_levels (plain.expression-Var (λ span. span) x name)

pub levels-Con : (x : Span) (name : List ℕ) → levels_of (expr.Con x name) ≡ 1
unfolding guard_size levels_of local_size row_size statement_size
levels-Con x name = ap expression_levels (plain.expression-Con (λ span. span) x name)

pub levels-Apply : (x : Span) (head : Expr Span) (parts : List (Expr Span)) → levels_of (expr.Apply x head parts) ≡ suc (max (levels_of head) (all_size levels_of parts))
unfolding guard_size levels_of local_size row_size statement_size
levels-Apply x head parts = ap expression_levels (plain.expression-Apply (λ span. span) x head parts) ∙ ap (λ n. suc (max (levels_of head) n)) (expressions_sizes parts)

pub levels-Tuple : (x : Span) (parts : List (Expr Span)) → levels_of (expr.Tuple x parts) ≡ suc (all_size levels_of parts)
unfolding guard_size levels_of local_size row_size statement_size
levels-Tuple x parts = ap expression_levels (plain.expression-Tuple (λ span. span) x parts) ∙ ap (suc) (expressions_sizes parts)

pub levels-Lambda : (x : Span) (pats : List (Pat Span)) (body : Expr Span) → levels_of (expr.Lambda x pats body) ≡ suc (max (patterns_size pats) (levels_of body))
unfolding guard_size levels_of local_size row_size statement_size
levels-Lambda x pats body = ap expression_levels (plain.expression-Lambda (λ span. span) x pats body)

pub levels-Let : (x : Span) (locals : List (Local Span)) (body : Expr Span) → levels_of (expr.Let x locals body) ≡ suc (max (all_size local_size locals) (levels_of body))
unfolding guard_size levels_of local_size row_size statement_size
levels-Let x locals body = ap expression_levels (plain.expression-Let (λ span. span) x locals body) ∙ ap (λ n. suc (max n (levels_of body))) (locals_sizes locals)

pub levels-If : (x : Span) (test first second : Expr Span) → levels_of (expr.If x test first second) ≡ suc (max (levels_of test) (max (levels_of first) (levels_of second)))
unfolding guard_size levels_of local_size row_size statement_size
levels-If x test first second = ap expression_levels (plain.expression-If (λ span. span) x test first second)

pub levels-Case : (x : Span) (scrutinee : Expr Span) (rows : List (Alt Span)) → levels_of (expr.Case x scrutinee rows) ≡ suc (max (levels_of scrutinee) (all_size row_size rows))
unfolding guard_size levels_of local_size row_size statement_size
levels-Case x scrutinee rows = ap expression_levels (plain.expression-Case (λ span. span) x scrutinee rows) ∙ ap (λ n. suc (max (levels_of scrutinee) n)) (rows_sizes rows)

pub levels-Do : (x : Span) (statements : List (Stmt Span)) → levels_of (expr.Do x statements) ≡ below_size statement_size statements
unfolding guard_size levels_of local_size row_size statement_size
levels-Do x statements = ap expression_levels (plain.expression-Do (λ span. span) x statements) ∙ ap (λ n. n) (statements_sizes statements)

pub side-Plain : (body : Expr Span) → side_size (rhs.Plain body) ≡ levels_of body
unfolding guard_size levels_of local_size row_size side_size statement_size
side-Plain body = ap side_levels (plain.right_side-Plain (λ span. span) body)

pub side-Guarded : (bodies : List (Guard Span)) → side_size (rhs.Guarded bodies) ≡ all_size guard_size bodies
unfolding guard_size levels_of local_size row_size side_size statement_size
side-Guarded bodies = ap side_levels (plain.right_side-Guarded (λ span. span) bodies) ∙ ap (λ n. n) (guards_sizes bodies)

pub local-Sig : (x : Span) (name : List ℕ) (type : Written) → local_size (local.Sig x name type) ≡ suc (type_size type)
unfolding guard_size levels_of local_size row_size statement_size
local-Sig x name type = ap binding_levels (plain.local_binding-Sig (λ span. span) x name type)

pub local-Fun : (x : Span) (name : List ℕ) (rows : List (Alt Span)) → local_size (local.Fun x name rows) ≡ suc (all_size row_size rows)
unfolding guard_size levels_of local_size row_size statement_size
local-Fun x name rows = ap binding_levels (plain.local_binding-Fun (λ span. span) x name rows) ∙ ap (suc) (rows_sizes rows)

pub local-Pattern : (x : Span) (row : Alt Span) → local_size (local.Pattern x row) ≡ suc (row_size row)
unfolding guard_size levels_of local_size row_size statement_size
local-Pattern x row = ap binding_levels (plain.local_binding-Pattern (λ span. span) x row)

pub statement-Bind : (x : Span) (pat : Pat Span) (body : Expr Span) → statement_size (stmt.Bind x pat body) ≡ suc (max (pattern_size pat) (levels_of body))
unfolding guard_size levels_of local_size row_size statement_size
statement-Bind x pat body = ap statement_levels (plain.statement-Bind (λ span. span) x pat body)

pub statement-Let : (x : Span) (locals : List (Local Span)) → statement_size (stmt.Let x locals) ≡ suc (all_size local_size locals)
unfolding guard_size levels_of local_size row_size statement_size
statement-Let x locals = ap statement_levels (plain.statement-Let (λ span. span) x locals) ∙ ap (suc) (locals_sizes locals)

pub statement-Run : (x : Span) (body : Expr Span) → statement_size (stmt.Run x body) ≡ suc (levels_of body)
unfolding guard_size levels_of local_size row_size statement_size
statement-Run x body = ap statement_levels (plain.statement-Run (λ span. span) x body)

pub row-parts : (row : Alt Span) → row_size row ≡ suc (max (patterns_size row.pats) (max (side_size row.rhs) (all_size local_size row.wheres)))
unfolding local_size row_size side_size
row-parts row = ap alternative_levels (plain.alternative-parts (λ span. span) row) ∙ ap (λ n. suc (max (patterns_size row.pats) (max (side_size row.rhs) n))) (locals_sizes row.wheres)

pub guard-parts : (g : Guard Span) → guard_size g ≡ max (levels_of g.test) (levels_of g.body)
unfolding guard_size levels_of
guard-parts g = ap body_levels (plain.guarded-parts (λ span. span) g)
