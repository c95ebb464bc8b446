-- How many frames each kind of tree has, by its parts.
use Rattle.std.proofs.Common.{◌≡◌, ℕ, suc, max, List, [], ◌∷◌, map, refl, ap, ◌∙◌, arith}
use Rattle.rw_base.specs.declared.place.Span.{Span}
use Rattle.rw_tree.specs.declared.types.Written.{Written}
use Rattle.rw_tree.specs.declared.types.Written.TheVariants as y
use Rattle.rw_tree.specs.declared.pattern.Pat.{Pat}
use Rattle.rw_tree.specs.declared.expr.Expr.{Expr}
use Rattle.rw_tree.specs.declared.expr.Expr.TheVariants as e
use Rattle.rw_tree.specs.declared.clause.Alt.{Alt}
use Rattle.rw_tree.specs.declared.clause.Rhs.TheVariants as r
use Rattle.rw_tree.specs.declared.clause.Guard.{Guard}
use Rattle.rw_tree.specs.declared.clause.Local.{Local}
use Rattle.rw_tree.specs.declared.clause.Local.TheVariants as l
use Rattle.rw_tree.specs.declared.clause.Stmt.{Stmt}
use Rattle.rw_tree.specs.declared.clause.Stmt.TheVariants as s
use Rattle.rw_tree.specs.Types.{type_parts, writtens}
use Rattle.rw_tree.specs.Trees.{expression, alternative_of, guarded, local_binding, statement, expression_parts, alternative_parts, body_parts, binding_parts, statement_parts}
use Rattle.rw_tree.proofs.Plains.{written-Var, written-Con, written-Apply, written-Fun, written-Tuple}
use Rattle.rw_tree.proofs.Plains.{expression-Var, expression-Con, expression-Apply, expression-Tuple, expression-Chain, expression-Lambda, expression-Let, expression-If, expression-Case, expression-Do}
use Rattle.rw_tree.proofs.Plains.{right_side-Plain, right_side-Guarded, local_binding-Sig, local_binding-Fun, local_binding-Pattern, statement-Bind, statement-Let, statement-Run, alternative-parts, guarded-parts}
use Rattle.rw_parser_grammar.specs.Types.{grouped_type, applied_type}
use Rattle.rw_parser_grammar.specs.Expressions.{grouped_expression, applied_expression, chained}
use Rattle.rw_parser_reading.specs.Frames.{type_frames, types_frames, expression_frames, expressions_frames, alternative_frames, alternatives_frames, side_frames, body_frames, bodies_frames, binding_frames, bindings_frames, statement_frames, statements_frames}
use Rattle.rw_parser_reading.specs.Frames.{most, frames_of_type, frames_of_expression, frames_of_row, frames_of_side, frames_of_guard, frames_of_local, frames_of_statement}

-- ---- types
types_most : (types : List Written) → types_frames (type_parts (writtens types)) ≡ most frames_of_type types
unfolding frames_of_type
types_most [] = refl
types_most (a ∷ types) = ap (max (frames_of_type a)) (types_most types)

pub frames-type-Var : (name : List ℕ) → frames_of_type (y.Var name) ≡ 0
unfolding frames_of_type
frames-type-Var name = ap type_frames (written-Var name)

pub frames-type-Con : (name : List ℕ) → frames_of_type (y.Con name) ≡ 0
unfolding frames_of_type
frames-type-Con name = ap type_frames (written-Con name)

pub frames-type-Apply : (head : Written) (parts : List Written) → frames_of_type (y.Apply head parts) ≡ max (frames_of_type head) (most frames_of_type parts)
unfolding frames_of_type
frames-type-Apply head parts = ap type_frames (written-Apply head parts) ∙ ap (max (frames_of_type head)) (types_most parts)

pub frames-type-Fun : (from to : Written) → frames_of_type (y.Fun from to) ≡ max (frames_of_type from) (suc (frames_of_type to))
unfolding frames_of_type
frames-type-Fun from to = ap type_frames (written-Fun from to)

pub frames-type-Tuple : (parts : List Written) → frames_of_type (y.Tuple parts) ≡ most frames_of_type parts
unfolding frames_of_type
frames-type-Tuple parts = ap type_frames (written-Tuple parts) ∙ types_most parts

-- a list of one has what its item has
most_one : (n : ℕ) → n ≡ max n 0
most_one n = omega arith

-- types in parentheses, and types applied
pub frames-grouped-type : (parts : List Written) → frames_of_type (grouped_type parts) ≡ most frames_of_type parts
frames-grouped-type [] = frames-type-Tuple []
frames-grouped-type (part ∷ []) = most_one (frames_of_type part)
frames-grouped-type (a ∷ b ∷ parts) = frames-type-Tuple (a ∷ b ∷ parts)

pub frames-applied-type : (head : Written) (parts : List Written) → frames_of_type (applied_type head parts) ≡ max (frames_of_type head) (most frames_of_type parts)
frames-applied-type head [] = most_one (frames_of_type head)
frames-applied-type head (part ∷ parts) = frames-type-Apply head (part ∷ parts)

-- ---- lists of parts

expressions_most : (parts : List (Expr Span)) → expressions_frames (expression_parts (map (expression (λ span. span)) parts)) ≡ most frames_of_expression parts
unfolding frames_of_expression
expressions_most [] = refl
expressions_most (a ∷ parts) = ap (max (frames_of_expression a)) (expressions_most parts)

rows_most : (rows : List (Alt Span)) → alternatives_frames (alternative_parts (map (alternative_of (λ span. span)) rows)) ≡ most frames_of_row rows
unfolding frames_of_row
rows_most [] = refl
rows_most (a ∷ rows) = ap (max (frames_of_row a)) (rows_most rows)

guards_most : (guards : List (Guard Span)) → bodies_frames (body_parts (map (guarded (λ span. span)) guards)) ≡ most frames_of_guard guards
unfolding frames_of_guard
guards_most [] = refl
guards_most (a ∷ guards) = ap (max (frames_of_guard a)) (guards_most guards)

locals_most : (locals : List (Local Span)) → bindings_frames (binding_parts (map (local_binding (λ span. span)) locals)) ≡ most frames_of_local locals
unfolding frames_of_local
locals_most [] = refl
locals_most (a ∷ locals) = ap (max (frames_of_local a)) (locals_most locals)

statements_most : (statements : List (Stmt Span)) → statements_frames (statement_parts (map (statement (λ span. span)) statements)) ≡ most frames_of_statement statements
unfolding frames_of_statement
statements_most [] = refl
statements_most (a ∷ statements) = ap (max (frames_of_statement a)) (statements_most statements)

-- ---- expressions
pub frames-Var : (x : Span) (name : List ℕ) → frames_of_expression (e.Var x name) ≡ 0
unfolding frames_of_expression
frames-Var x name = ap expression_frames (expression-Var (λ span. span) x name)

pub frames-Con : (x : Span) (name : List ℕ) → frames_of_expression (e.Con x name) ≡ 0
unfolding frames_of_expression
frames-Con x name = ap expression_frames (expression-Con (λ span. span) x name)

pub frames-Apply : (x : Span) (head : Expr Span) (parts : List (Expr Span)) → frames_of_expression (e.Apply x head parts) ≡ max (frames_of_expression head) (most frames_of_expression parts)
unfolding frames_of_expression
frames-Apply x head parts = ap expression_frames (expression-Apply (λ span. span) x head parts) ∙ ap (max (frames_of_expression head)) (expressions_most parts)

pub frames-Tuple : (x : Span) (parts : List (Expr Span)) → frames_of_expression (e.Tuple x parts) ≡ most frames_of_expression parts
unfolding frames_of_expression
frames-Tuple x parts = ap expression_frames (expression-Tuple (λ span. span) x parts) ∙ expressions_most parts

pub frames-Chain : (x : Span) (operands operators : List (Expr Span)) → frames_of_expression (e.Chain x operands operators) ≡ most frames_of_expression operands
unfolding frames_of_expression
frames-Chain x operands operators = ap expression_frames (expression-Chain (λ span. span) x operands operators) ∙ expressions_most operands

pub frames-Lambda : (x : Span) (pats : List (Pat Span)) (body : Expr Span) → frames_of_expression (e.Lambda x pats body) ≡ suc (frames_of_expression body)
unfolding frames_of_expression
frames-Lambda x pats body = ap expression_frames (expression-Lambda (λ span. span) x pats body)

pub frames-Let : (x : Span) (locals : List (Local Span)) (body : Expr Span) → frames_of_expression (e.Let x locals body) ≡ max (most frames_of_local locals) (suc (frames_of_expression body))
unfolding frames_of_expression
frames-Let x locals body = ap expression_frames (expression-Let (λ span. span) x locals body) ∙ ap (λ n. max n (suc (frames_of_expression body))) (locals_most locals)

pub frames-If : (x : Span) (test first second : Expr Span)
    → frames_of_expression (e.If x test first second) ≡ max (frames_of_expression test) (max (frames_of_expression first) (suc (frames_of_expression second)))
unfolding frames_of_expression
frames-If x test first second = ap expression_frames (expression-If (λ span. span) x test first second)

pub frames-Case : (x : Span) (scrutinee : Expr Span) (rows : List (Alt Span)) → frames_of_expression (e.Case x scrutinee rows) ≡ max (frames_of_expression scrutinee) (most frames_of_row rows)
unfolding frames_of_expression
frames-Case x scrutinee rows = ap expression_frames (expression-Case (λ span. span) x scrutinee rows) ∙ ap (max (frames_of_expression scrutinee)) (rows_most rows)

pub frames-Do : (x : Span) (statements : List (Stmt Span)) → frames_of_expression (e.Do x statements) ≡ most frames_of_statement statements
unfolding frames_of_expression
frames-Do x statements = ap expression_frames (expression-Do (λ span. span) x statements) ∙ statements_most statements

-- expressions in parentheses, applied, and with operators between them
pub frames-grouped : (span : Span) (parts : List (Expr Span)) → frames_of_expression (grouped_expression span parts) ≡ most frames_of_expression parts
frames-grouped span [] = frames-Tuple span []
frames-grouped span (part ∷ []) = most_one (frames_of_expression part)
frames-grouped span (a ∷ b ∷ parts) = frames-Tuple span (a ∷ b ∷ parts)

pub frames-applied : (span : Span) (head : Expr Span) (parts : List (Expr Span)) → frames_of_expression (applied_expression span head parts) ≡ max (frames_of_expression head) (most frames_of_expression parts)
frames-applied span head [] = most_one (frames_of_expression head)
frames-applied span head (part ∷ parts) = frames-Apply span head (part ∷ parts)

pub frames-chained : (span : Span) (operands operators : List (Expr Span)) → frames_of_expression (chained span operands operators) ≡ most frames_of_expression operands
frames-chained span [] operators = frames-Chain span [] operators
frames-chained span (operand ∷ []) operators = most_one (frames_of_expression operand)
frames-chained span (a ∷ b ∷ operands) operators = frames-Chain span (a ∷ b ∷ operands) operators

-- ---- right sides, rows, local declarations and statements
pub frames-Plain : (body : Expr Span) → frames_of_side (r.Plain body) ≡ frames_of_expression body
unfolding frames_of_side frames_of_expression
frames-Plain body = ap side_frames (right_side-Plain (λ span. span) body)

pub frames-Guarded : (guards : List (Guard Span)) → frames_of_side (r.Guarded guards) ≡ most frames_of_guard guards
unfolding frames_of_side
frames-Guarded guards = ap side_frames (right_side-Guarded (λ span. span) guards) ∙ guards_most guards

pub frames-guard : (guard : Guard Span) → frames_of_guard guard ≡ max (frames_of_expression guard.test) (frames_of_expression guard.body)
unfolding frames_of_guard frames_of_expression
frames-guard guard = ap body_frames (guarded-parts (λ span. span) guard)

pub frames-row : (row : Alt Span) → frames_of_row row ≡ max (frames_of_side row.rhs) (most frames_of_local row.wheres)
unfolding frames_of_row frames_of_side
frames-row row = ap alternative_frames (alternative-parts (λ span. span) row) ∙ ap (max (frames_of_side row.rhs)) (locals_most row.wheres)

pub frames-local-Sig : (x : Span) (name : List ℕ) (type : Written) → frames_of_local (l.Sig x name type) ≡ frames_of_type type
unfolding frames_of_local frames_of_type
frames-local-Sig x name type = ap binding_frames (local_binding-Sig (λ span. span) x name type)

pub frames-local-Fun : (x : Span) (name : List ℕ) (rows : List (Alt Span)) → frames_of_local (l.Fun x name rows) ≡ most frames_of_row rows
unfolding frames_of_local
frames-local-Fun x name rows = ap binding_frames (local_binding-Fun (λ span. span) x name rows) ∙ rows_most rows

pub frames-local-Pattern : (x : Span) (row : Alt Span) → frames_of_local (l.Pattern x row) ≡ frames_of_row row
unfolding frames_of_local frames_of_row
frames-local-Pattern x row = ap binding_frames (local_binding-Pattern (λ span. span) x row)

pub frames-Bind : (x : Span) (pat : Pat Span) (body : Expr Span) → frames_of_statement (s.Bind x pat body) ≡ frames_of_expression body
unfolding frames_of_statement frames_of_expression
frames-Bind x pat body = ap statement_frames (statement-Bind (λ span. span) x pat body)

pub frames-statement-Let : (x : Span) (locals : List (Local Span)) → frames_of_statement (s.Let x locals) ≡ most frames_of_local locals
unfolding frames_of_statement
frames-statement-Let x locals = ap statement_frames (statement-Let (λ span. span) x locals) ∙ locals_most locals

pub frames-Run : (x : Span) (body : Expr Span) → frames_of_statement (s.Run x body) ≡ frames_of_expression body
unfolding frames_of_statement frames_of_expression
frames-Run x body = ap statement_frames (statement-Run (λ span. span) x body)
