-- A tree that is resolved has at least as many levels as the tree that was read has frames.
use Rattle.std.proofs.Common.{◌≡◌, ℕ, suc, max, ◌<◌, ◌≤◌, Bool, true, false, cond, List, [], ◌∷◌, ◌++◌, map, codes, refl, ap, arith}
use Rattle.std.specs.Str.{bytes_eq}
use Rattle.rw_base.specs.declared.place.Span.{Span}
use Rattle.rw_tree.specs.declared.types.Written.{Written}
use Rattle.rw_tree.specs.declared.pattern.Pat.{Pat}
use Rattle.rw_tree.specs.declared.expr.Expr.{Expr}
use Rattle.rw_tree.specs.declared.expr.Expr.TheVariants as e
use Rattle.rw_tree.specs.declared.clause.Alt.{Alt}
use Rattle.rw_tree.specs.declared.clause.Rhs.{Rhs}
use Rattle.rw_tree.specs.declared.clause.Rhs.TheVariants as r
use Rattle.rw_tree.specs.declared.clause.Guard.{Guard}
use Rattle.rw_tree.specs.declared.clause.Local.{Local}
use Rattle.rw_tree.specs.declared.clause.Local.TheVariants as l
use Rattle.rw_tree.specs.declared.clause.Stmt.{Stmt}
use Rattle.rw_tree.specs.declared.clause.Stmt.TheVariants as s
use Rattle.rw_tree.specs.declared.decl.Constructor.{Constructor}
use Rattle.rw_tree.specs.declared.decl.Decl.{Decl}
use Rattle.rw_tree.specs.Types.{WrittenType, WrittenTypes, variable_type, constructor_type, applied_type, function_type, tuple_type, no_types, more_types, written, writtens}
use Rattle.rw_tree.specs.Trees.{expression, alternative_of, right_side, guarded, local_binding, statement, expression_parts, alternative_parts, body_parts, binding_parts, statement_parts}
use Rattle.rw_tree.specs.Declarations.{declaration, plain_constructor}
use Rattle.rw_tree.proofs.Plains.{expression-Apply, expression-Tuple, expression-Lambda, expression-Let, expression-If, expression-Case, expression-Do}
use Rattle.rw_tree.proofs.Plains.{right_side-Plain, right_side-Guarded, local_binding-Sig, local_binding-Fun, local_binding-Pattern, statement-Bind, statement-Let, statement-Run, alternative-parts, guarded-parts}
use Rattle.rw_parser_grammar.specs.Chains.{Strength, operator_name, expression_span, operation, IsGrouped, one_operand, grouped_at}
use Rattle.rw_parser_grammar.specs.Lexemes.{span_over}
use Rattle.rw_parser_grammar.specs.Levels.{max_levels, type_levels, types_levels, expression_levels, expressions_levels, alternative_levels, alternatives_levels, side_levels, body_levels, bodies_levels, binding_levels, bindings_levels, statement_levels, statements_levels, fields_levels, constructors_levels, rows_levels, declaration_levels, row_patterns_levels, pattern_levels}
use Rattle.rw_tree.specs.Patterns.{pattern, patterns}
use Rattle.rw_parser_grammar.specs.Resolved.{IsResolved, variable_resolved, constructor_resolved, application_resolved, tuple_resolved, chain_resolved, lambda_resolved, let_resolved, if_resolved, case_resolved, do_resolved, AreResolved, none_resolved, more_resolved}
use Rattle.rw_parser_grammar.specs.Resolved.{IsRowResolved, row_resolved, AreRowsResolved, no_rows_resolved, more_rows_resolved, IsSideResolved, plain_resolved, guarded_resolved, AreGuardsResolved, no_guards_resolved, more_guards_resolved}
use Rattle.rw_parser_grammar.specs.Resolved.{AreLocalsResolved, no_locals_resolved, signature_resolved, function_resolved, pattern_resolved, AreStatementsResolved, no_statements_resolved, bind_resolved, let_statement_resolved, run_resolved}
use Rattle.rw_parser_grammar.specs.Resolution.{IsDeclarationResolved, import_stays, data_stays, fixity_stays, signature_stays, clauses_resolved, IsRowBroken}
use Rattle.rw_parser_reading.specs.Frames.{type_frames, types_frames, most, frames_of_type, frames_of_expression, frames_of_row, frames_of_side, frames_of_guard, frames_of_local, frames_of_statement, frames_of_constructor, frames_of_declaration}
use Rattle.rw_parser_reading.proofs.FramesOf.{frames-Var, frames-Con, frames-Apply, frames-Tuple, frames-Chain, frames-Lambda, frames-Let, frames-If, frames-Case, frames-Do, frames-Plain, frames-Guarded, frames-guard, frames-row, frames-local-Sig, frames-local-Fun, frames-local-Pattern, frames-Bind, frames-statement-Let, frames-Run}

-- ---- types
mutual
  plain_type_deep : (a : WrittenType) → type_frames a ≤ type_levels a
  plain_type_deep (variable_type name) = omega arith
  plain_type_deep (constructor_type name) = omega arith
  plain_type_deep (applied_type head parts) = let h = plain_type_deep head in let g = plain_types_deep parts in omega arith
  plain_type_deep (function_type from to) = let h = plain_type_deep from in let g = plain_type_deep to in omega arith
  plain_type_deep (tuple_type parts) = let g = plain_types_deep parts in omega arith

  plain_types_deep : (all : WrittenTypes) → types_frames all ≤ types_levels all
  plain_types_deep no_types = omega arith
  plain_types_deep (more_types a all) = let h = plain_type_deep a in let g = plain_types_deep all in omega arith

pub type_deep : (a : Written) → frames_of_type a ≤ type_levels (written a)
unfolding frames_of_type
type_deep a = plain_type_deep (written a)

fields_deep : (types : List Written) → most frames_of_type types ≤ fields_levels (writtens types)
fields_deep [] = omega arith
fields_deep (a ∷ types) = let h = type_deep a in let g = fields_deep types in omega arith

constructors_deep : (all : List Constructor) → most frames_of_constructor all ≤ constructors_levels (map plain_constructor all)
constructors_deep [] = omega arith
constructors_deep (made ∷ all) = let h = fields_deep made.fields in let g = constructors_deep all in omega arith

-- ---- levels of each kind of tree
unfoldable pub levels_of : Expr Span → ℕ
levels_of a = expression_levels (expression (λ span. span) a)

unfoldable pub levels_of_all : List (Expr Span) → ℕ
levels_of_all all = expressions_levels (expression_parts (map (expression (λ span. span)) all))

unfoldable pub levels_of_row : Alt Span → ℕ
levels_of_row a = alternative_levels (alternative_of (λ span. span) a)

unfoldable pub levels_of_rows : List (Alt Span) → ℕ
levels_of_rows all = alternatives_levels (alternative_parts (map (alternative_of (λ span. span)) all))

unfoldable pub levels_of_side : Rhs Span → ℕ
levels_of_side a = side_levels (right_side (λ span. span) a)

unfoldable pub levels_of_guards : List (Guard Span) → ℕ
levels_of_guards all = bodies_levels (body_parts (map (guarded (λ span. span)) all))

unfoldable pub levels_of_locals : List (Local Span) → ℕ
levels_of_locals all = bindings_levels (binding_parts (map (local_binding (λ span. span)) all))

unfoldable pub levels_of_statements : List (Stmt Span) → ℕ
levels_of_statements all = statements_levels (statement_parts (map (statement (λ span. span)) all))

all_none : levels_of_all [] ≡ 0
unfolding levels_of_all
all_none = refl

all_more : (a : Expr Span) (others : List (Expr Span)) → levels_of_all (a ∷ others) ≡ max (levels_of a) (levels_of_all others)
unfolding levels_of_all levels_of
all_more a others = refl

levels-Apply : (x : Span) (head : Expr Span) (parts : List (Expr Span)) → levels_of (e.Apply x head parts) ≡ suc (max (levels_of head) (levels_of_all parts))
unfolding levels_of levels_of_all
levels-Apply x head parts = ap expression_levels (expression-Apply (λ span. span) x head parts)

levels-Tuple : (x : Span) (parts : List (Expr Span)) → levels_of (e.Tuple x parts) ≡ suc (levels_of_all parts)
unfolding levels_of levels_of_all
levels-Tuple x parts = ap expression_levels (expression-Tuple (λ span. span) x parts)

levels-Lambda : (x : Span) (pats : List (Pat Span)) (body : Expr Span) → levels_of (e.Lambda x pats body) ≡ suc (max (row_patterns_levels (patterns (λ span. span) pats)) (levels_of body))
unfolding levels_of
levels-Lambda x pats body = ap expression_levels (expression-Lambda (λ span. span) x pats body)

levels-Let : (x : Span) (locals : List (Local Span)) (body : Expr Span) → levels_of (e.Let x locals body) ≡ suc (max (levels_of_locals locals) (levels_of body))
unfolding levels_of levels_of_locals
levels-Let x locals body = ap expression_levels (expression-Let (λ span. span) x locals body)

levels-If : (x : Span) (test first second : Expr Span) → levels_of (e.If x test first second) ≡ suc (max (levels_of test) (max (levels_of first) (levels_of second)))
unfolding levels_of
levels-If x test first second = ap expression_levels (expression-If (λ span. span) x test first second)

levels-Case : (x : Span) (scrutinee : Expr Span) (rows : List (Alt Span)) → levels_of (e.Case x scrutinee rows) ≡ suc (max (levels_of scrutinee) (levels_of_rows rows))
unfolding levels_of levels_of_rows
levels-Case x scrutinee rows = ap expression_levels (expression-Case (λ span. span) x scrutinee rows)

levels-Do : (x : Span) (statements : List (Stmt Span)) → levels_of (e.Do x statements) ≡ levels_of_statements statements
unfolding levels_of levels_of_statements
levels-Do x statements = ap expression_levels (expression-Do (λ span. span) x statements)

rows_none : levels_of_rows [] ≡ 0
unfolding levels_of_rows
rows_none = refl

rows_more : (a : Alt Span) (others : List (Alt Span)) → levels_of_rows (a ∷ others) ≡ max (levels_of_row a) (levels_of_rows others)
unfolding levels_of_rows levels_of_row
rows_more a others = refl

levels-row : (row : Alt Span) → levels_of_row row ≡ suc (max (row_patterns_levels (patterns (λ span. span) row.pats)) (max (levels_of_side row.rhs) (levels_of_locals row.wheres)))
unfolding levels_of_row levels_of_side levels_of_locals
levels-row row = ap alternative_levels (alternative-parts (λ span. span) row)

levels-Plain : (body : Expr Span) → levels_of_side (r.Plain body) ≡ levels_of body
unfolding levels_of_side levels_of
levels-Plain body = ap side_levels (right_side-Plain (λ span. span) body)

levels-Guarded : (guards : List (Guard Span)) → levels_of_side (r.Guarded guards) ≡ levels_of_guards guards
unfolding levels_of_side levels_of_guards
levels-Guarded guards = ap side_levels (right_side-Guarded (λ span. span) guards)

guards_more : (guard : Guard Span) (guards : List (Guard Span)) → levels_of_guards (guard ∷ guards) ≡ max (max (levels_of guard.test) (levels_of guard.body)) (levels_of_guards guards)
unfolding levels_of_guards levels_of
guards_more guard guards = ap (λ z. max (body_levels z) (bodies_levels (body_parts (map (guarded (λ span. span)) guards)))) (guarded-parts (λ span. span) guard)

locals-Sig : (x : Span) (name : List ℕ) (type : Written) (locals : List (Local Span)) → levels_of_locals (l.Sig x name type ∷ locals) ≡ max (suc (type_levels (written type))) (levels_of_locals locals)
unfolding levels_of_locals
locals-Sig x name type locals = ap (λ z. max (binding_levels z) (bindings_levels (binding_parts (map (local_binding (λ span. span)) locals)))) (local_binding-Sig (λ span. span) x name type)

locals-Fun : (x : Span) (name : List ℕ) (rows : List (Alt Span)) (locals : List (Local Span)) → levels_of_locals (l.Fun x name rows ∷ locals) ≡ max (suc (levels_of_rows rows)) (levels_of_locals locals)
unfolding levels_of_locals levels_of_rows
locals-Fun x name rows locals = ap (λ z. max (binding_levels z) (bindings_levels (binding_parts (map (local_binding (λ span. span)) locals)))) (local_binding-Fun (λ span. span) x name rows)

locals-Pattern : (x : Span) (row : Alt Span) (locals : List (Local Span)) → levels_of_locals (l.Pattern x row ∷ locals) ≡ max (suc (levels_of_row row)) (levels_of_locals locals)
unfolding levels_of_locals levels_of_row
locals-Pattern x row locals = ap (λ z. max (binding_levels z) (bindings_levels (binding_parts (map (local_binding (λ span. span)) locals)))) (local_binding-Pattern (λ span. span) x row)

statements-Bind : (x : Span) (pat : Pat Span) (body : Expr Span) (others : List (Stmt Span))
    → levels_of_statements (s.Bind x pat body ∷ others) ≡ suc (max (suc (max (pattern_levels (pattern (λ span. span) pat)) (levels_of body))) (levels_of_statements others))
unfolding levels_of_statements levels_of
statements-Bind x pat body others = ap (λ z. suc (max (statement_levels z) (statements_levels (statement_parts (map (statement (λ span. span)) others))))) (statement-Bind (λ span. span) x pat body)

statements-Let : (x : Span) (locals : List (Local Span)) (others : List (Stmt Span)) → levels_of_statements (s.Let x locals ∷ others) ≡ suc (max (suc (levels_of_locals locals)) (levels_of_statements others))
unfolding levels_of_statements levels_of_locals
statements-Let x locals others = ap (λ z. suc (max (statement_levels z) (statements_levels (statement_parts (map (statement (λ span. span)) others))))) (statement-Let (λ span. span) x locals)

statements-Run : (x : Span) (body : Expr Span) (others : List (Stmt Span)) → levels_of_statements (s.Run x body ∷ others) ≡ suc (max (suc (levels_of body)) (levels_of_statements others))
unfolding levels_of_statements levels_of
statements-Run x body others = ap (λ z. suc (max (statement_levels z) (statements_levels (statement_parts (map (statement (λ span. span)) others))))) (statement-Run (λ span. span) x body)

-- ---- chains: an operand is no deeper than the whole
operands_both : (lefts rights : List (Expr Span)) → levels_of_all (lefts ++ rights) ≡ max (levels_of_all lefts) (levels_of_all rights)
operands_both [] rights = let n = all_none in omega arith
operands_both (a ∷ lefts) rights = let h = operands_both lefts rights in let g = all_more a (lefts ++ rights) in let k = all_more a lefts in omega arith

operation_as : (yes : Bool) (o a b : Expr Span) (span : Span) → max (levels_of a) (levels_of b) ≤ levels_of (cond yes (e.Apply span a (b ∷ [])) (e.Apply span o (a ∷ b ∷ [])))
operation_as true o a b span = let h = levels-Apply span a (b ∷ []) in let g = all_more b [] in omega arith
operation_as false o a b span = let h = levels-Apply span o (a ∷ b ∷ []) in let g = all_more a (b ∷ []) in let k = all_more b [] in omega arith

operation_deep : (o a b : Expr Span) → max (levels_of a) (levels_of b) ≤ levels_of (operation o a b)
operation_deep o a b = operation_as (bytes_eq (operator_name o) (codes "$")) o a b (span_over (expression_span a) (expression_span b))

module _ {strength : List ℕ → Strength} where
  grouped_deep : {operands operators : List (Expr Span)} {tree : Expr Span} → IsGrouped strength operands operators tree → levels_of_all operands ≤ levels_of tree
  grouped_deep (one_operand a) = let h = all_more a [] in let g = all_none in omega arith
  grouped_deep (grouped_at o a b lefts rights os ps d k x y) =
      let h = grouped_deep d in let g = grouped_deep k in let i = operands_both lefts rights in let j = operation_deep o a b in omega arith

  -- ---- trees
  mutual
    pub expression_deep : {a b : Expr Span} → IsResolved strength a b → frames_of_expression a ≤ levels_of b
    expression_deep (variable_resolved x name) = let h = frames-Var x name in omega arith
    expression_deep (constructor_resolved x name) = let h = frames-Con x name in omega arith
    expression_deep (application_resolved x a b parts others d ds) =
        let h = expression_deep d in let g = expressions_deep ds in let i = frames-Apply x a parts in let j = levels-Apply x b others in omega arith
    expression_deep (tuple_resolved x parts others ds) = let g = expressions_deep ds in let i = frames-Tuple x parts in let j = levels-Tuple x others in omega arith
    expression_deep (chain_resolved x operands operators others between tree ds os k) = let g = expressions_deep ds in let h = grouped_deep k in let i = frames-Chain x operands operators in omega arith
    expression_deep (lambda_resolved x pats a b d) = let h = expression_deep d in let i = frames-Lambda x pats a in let j = levels-Lambda x pats b in omega arith
    expression_deep (let_resolved x locals others a b ds d) =
        let h = expression_deep d in let g = locals_deep ds in let i = frames-Let x locals a in let j = levels-Let x others b in omega arith
    expression_deep (if_resolved x a b c d f g p q w) =
        let h = expression_deep p in let k = expression_deep q in let n = expression_deep w in let i = frames-If x a c f in let j = levels-If x b d g in omega arith
    expression_deep (case_resolved x a b rows others d ds) =
        let h = expression_deep d in let g = rows_deep ds in let i = frames-Case x a rows in let j = levels-Case x b others in omega arith
    expression_deep (do_resolved x statements others ds) = let g = statements_deep ds in let i = frames-Do x statements in let j = levels-Do x others in omega arith

    expressions_deep : {lefts rights : List (Expr Span)} → AreResolved strength lefts rights → most frames_of_expression lefts ≤ levels_of_all rights
    expressions_deep none_resolved = omega arith
    expressions_deep (more_resolved a b lefts rights d ds) = let h = expression_deep d in let g = expressions_deep ds in let i = all_more b rights in omega arith

    pub row_deep : {a b : Alt Span} → IsRowResolved strength a b → suc (frames_of_row a) ≤ levels_of_row b
    row_deep (row_resolved x pats rhs other locals others d ds) =
        let h = side_deep d in
        let g = locals_deep ds in
        let i = frames-row (record { at = x; pats = pats; rhs = rhs; wheres = locals }) in
        let j = levels-row (record { at = x; pats = pats; rhs = other; wheres = others }) in
        omega arith

    rows_deep : {lefts rights : List (Alt Span)} → AreRowsResolved strength lefts rights → most frames_of_row lefts ≤ levels_of_rows rights
    rows_deep no_rows_resolved = omega arith
    rows_deep (more_rows_resolved a b lefts rights d ds) = let h = row_deep d in let g = rows_deep ds in let i = rows_more b rights in omega arith

    side_deep : {a b : Rhs Span} → IsSideResolved strength a b → frames_of_side a ≤ levels_of_side b
    side_deep (plain_resolved a b d) = let h = expression_deep d in let i = frames-Plain a in let j = levels-Plain b in omega arith
    side_deep (guarded_resolved guards others ds) = let g = guards_deep ds in let i = frames-Guarded guards in let j = levels-Guarded others in omega arith

    guards_deep : {lefts rights : List (Guard Span)} → AreGuardsResolved strength lefts rights → most frames_of_guard lefts ≤ levels_of_guards rights
    guards_deep no_guards_resolved = omega arith
    guards_deep (more_guards_resolved a b c d guards others p q ds) =
        let h = expression_deep p in
        let k = expression_deep q in
        let g = guards_deep ds in
        let i = frames-guard (record { test = a; body = c }) in
        let j = guards_more (record { test = b; body = d }) others in
        omega arith

    locals_deep : {lefts rights : List (Local Span)} → AreLocalsResolved strength lefts rights → most frames_of_local lefts ≤ levels_of_locals rights
    locals_deep no_locals_resolved = omega arith
    locals_deep (signature_resolved x name type locals others ds) =
        let g = locals_deep ds in let h = type_deep type in let i = frames-local-Sig x name type in let j = locals-Sig x name type others in omega arith
    locals_deep (function_resolved x name rows changed locals others d ds) =
        let g = locals_deep ds in let h = rows_deep d in let i = frames-local-Fun x name rows in let j = locals-Fun x name changed others in omega arith
    locals_deep (pattern_resolved x row changed locals others d ds) =
        let g = locals_deep ds in let h = row_deep d in let i = frames-local-Pattern x row in let j = locals-Pattern x changed others in omega arith

    statements_deep : {lefts rights : List (Stmt Span)} → AreStatementsResolved strength lefts rights → most frames_of_statement lefts ≤ levels_of_statements rights
    statements_deep no_statements_resolved = omega arith
    statements_deep (bind_resolved x pat a b statements others d ds) =
        let h = expression_deep d in let g = statements_deep ds in let i = frames-Bind x pat a in let j = statements-Bind x pat b others in omega arith
    statements_deep (let_statement_resolved x locals changed statements others d ds) =
        let h = locals_deep d in let g = statements_deep ds in let i = frames-statement-Let x locals in let j = statements-Let x changed others in omega arith
    statements_deep (run_resolved x a b statements others d ds) =
        let h = expression_deep d in let g = statements_deep ds in let i = frames-Run x a in let j = statements-Run x b others in omega arith

  -- ---- declarations
  plain_row_deep : {a b : Alt Span} → IsRowResolved strength a b → suc (frames_of_row a) ≤ alternative_levels (alternative_of (λ span. span) b)
  unfolding levels_of_row
  plain_row_deep d = row_deep d

  clauses_deep : {lefts rights : List (Alt Span)} → AreRowsResolved strength lefts rights → most frames_of_row lefts ≤ rows_levels (map (alternative_of (λ span. span)) rights)
  clauses_deep no_rows_resolved = omega arith
  clauses_deep (more_rows_resolved a b lefts rights d ds) = let h = plain_row_deep d in let g = clauses_deep ds in omega arith

  -- a declaration has a level more than frames, if it has any
  pub declaration_deep : {a b : Decl Span} → IsDeclarationResolved strength a b → suc (frames_of_declaration a) ≤ declaration_levels (declaration (λ span. span) b)
  declaration_deep (import_stays x name) = omega arith
  declaration_deep (data_stays x made) = let h = constructors_deep made.constructors in omega arith
  declaration_deep (fixity_stays x side n names) = omega arith
  declaration_deep (signature_stays x names type) = let h = type_deep type in omega arith
  declaration_deep (clauses_resolved x name rows others ds) = let h = clauses_deep ds in omega arith

  -- a clause with too many frames is broken
  pub deep_row : (row : Alt Span) → max_levels < frames_of_row row → IsRowBroken strength row
  deep_row row h = λ other d. let g = plain_row_deep d in omega arith
