-- Binding changes annotations alone: a bound tree with its spans alone is the tree.
use Rattle.std.proofs.Common.{◌≡◌, ℕ, suc, List, [], ◌∷◌, map, refl, ap, ◌∙◌}
use Rattle.rw_base.specs.declared.place.Span.{Span}
use Rattle.rw_tree.specs.Patterns.{Pattern, wildcard, variable_pattern, constructor_pattern, tuple_pattern, Patterns, no_patterns, more_patterns}
use Rattle.rw_tree.specs.Trees.{Expression, variable, constructor, application, tuple, chain, lambda, let_in, if_then_else, case_of, do_block, Expressions, no_expressions, more_expressions}
use Rattle.rw_tree.specs.Trees.{Alternative, alternative, Alternatives, no_alternatives, more_alternatives, RightSide, plain_side, guarded_side, GuardedBody, guarded_body, GuardedBodies, no_bodies, more_bodies}
use Rattle.rw_tree.specs.Trees.{LocalBinding, local_signature, local_function, local_pattern, LocalBindings, no_bindings, more_bindings, Statement, bind_statement, let_statement, run_statement, Statements, no_statements, more_statements}
use Rattle.rw_tree.specs.Declarations.{Declaration, import_declaration, data_declaration, fixity_declaration, signature_declaration, function_declaration, PlainProgram}
use Rattle.rw_scope_rules.specs.Names.{Bytes}
use Rattle.rw_scope_rules.specs.Bindings.{Tops, Scope, tops_of, entered, names_of, binding_variables, inside, inside_row, inside_group, inside_statement, group_names, bound_pattern, bound_parts, bound_row, bound_expression, bound_expressions, bound_clause, bound_clauses, bound_side, bound_body, bound_bodies, bound_binding, bound_group, bound_statement, bound_statements, bound_declaration, bound_declarations, bound_program}
use Rattle.rw_scope_binding.specs.Spanned.{spanned_pattern, spanned_parts, spanned_expression, spanned_expressions, spanned_clause, spanned_clauses, spanned_side, spanned_body, spanned_bodies, spanned_binding, spanned_group, spanned_statement, spanned_statements, spanned_declaration, spanned_program}

module _ (tops : Tops) where
  mutual
    pattern_same : (scope : Scope) (p : Pattern Span) → spanned_pattern (bound_pattern tops scope p) ≡ p
    pattern_same scope (wildcard a) = refl
    pattern_same scope (variable_pattern a x) = refl
    pattern_same scope (constructor_pattern a c parts) = ap (constructor_pattern a c) (parts_same scope parts)
    pattern_same scope (tuple_pattern a parts) = ap (tuple_pattern a) (parts_same scope parts)

    parts_same : (scope : Scope) (ps : Patterns Span) → spanned_parts (bound_parts tops scope ps) ≡ ps
    parts_same scope no_patterns = refl
    parts_same scope (more_patterns p ps) = ap (λ z. more_patterns z (spanned_parts (bound_parts tops (inside p scope) ps))) (pattern_same scope p) ∙ ap (more_patterns p) (parts_same (inside p scope) ps)

  row_same : (scope : Scope) (ps : List (Pattern Span)) → map spanned_pattern (bound_row tops scope ps) ≡ ps
  row_same scope [] = refl
  row_same scope (p ∷ ps) = ap (λ z. z ∷ map spanned_pattern (bound_row tops (inside p scope) ps)) (pattern_same scope p) ∙ ap (λ z. p ∷ z) (row_same (inside p scope) ps)

  mutual
    expression_same : (scope : Scope) (e : Expression Span) → spanned_expression (bound_expression tops scope e) ≡ e
    expression_same scope (variable a x) = refl
    expression_same scope (constructor a c) = refl
    expression_same scope (application a head parts) = rw (expression_same scope head, expressions_same scope parts) refl
    expression_same scope (tuple a parts) = rw (expressions_same scope parts) refl
    expression_same scope (chain a operands operators) =
        ap (λ z. chain a z (spanned_expressions (bound_expressions tops scope operators))) (expressions_same scope operands) ∙ ap (chain a operands) (expressions_same scope operators)
    expression_same scope (lambda a pats body) = rw (row_same scope pats, expression_same (inside_row pats scope) body) refl
    expression_same scope (let_in a group body) =
        rw (group_same (group_names group) (inside_group group scope) scope group, expression_same (inside_group group scope) body) refl
    expression_same scope (if_then_else a test first second) =
        ap (λ z. if_then_else a z (spanned_expression (bound_expression tops scope first)) (spanned_expression (bound_expression tops scope second))) (expression_same scope test)
        ∙ ap (λ z. if_then_else a test z (spanned_expression (bound_expression tops scope second))) (expression_same scope first)
        ∙ ap (if_then_else a test first) (expression_same scope second)
    expression_same scope (case_of a scrutinee rows) = rw (expression_same scope scrutinee, clauses_same scope rows) refl
    expression_same scope (do_block a statements) = rw (statements_same scope statements) refl

    expressions_same : (scope : Scope) (es : Expressions Span) → spanned_expressions (bound_expressions tops scope es) ≡ es
    expressions_same scope no_expressions = refl
    expressions_same scope (more_expressions e es) = rw (expression_same scope e, expressions_same scope es) refl

    clause_same : (scope : Scope) (c : Alternative Span) → spanned_clause (bound_clause tops scope c) ≡ c
    clause_same scope (alternative a pats side wheres) =
        rw (
          row_same scope pats,
          side_same (inside_group wheres (inside_row pats scope)) side,
          group_same (group_names wheres) (inside_group wheres (inside_row pats scope)) (inside_row pats scope) wheres,
        ) refl

    clauses_same : (scope : Scope) (cs : Alternatives Span) → spanned_clauses (bound_clauses tops scope cs) ≡ cs
    clauses_same scope no_alternatives = refl
    clauses_same scope (more_alternatives c cs) = rw (clause_same scope c, clauses_same scope cs) refl

    side_same : (scope : Scope) (side : RightSide Span) → spanned_side (bound_side tops scope side) ≡ side
    side_same scope (plain_side body) = rw (expression_same scope body) refl
    side_same scope (guarded_side bodies) = rw (bodies_same scope bodies) refl

    body_same : (scope : Scope) (b : GuardedBody Span) → spanned_body (bound_body tops scope b) ≡ b
    body_same scope (guarded_body test body) =
        ap (λ z. guarded_body z (spanned_expression (bound_expression tops scope body))) (expression_same scope test) ∙ ap (guarded_body test) (expression_same scope body)

    bodies_same : (scope : Scope) (bs : GuardedBodies Span) → spanned_bodies (bound_bodies tops scope bs) ≡ bs
    bodies_same scope no_bodies = refl
    bodies_same scope (more_bodies b bs) = rw (body_same scope b, bodies_same scope bs) refl

    binding_same : (names : List Bytes) (scope before : Scope) (b : LocalBinding Span) → spanned_binding (bound_binding tops names scope before b) ≡ b
    binding_same names scope before (local_signature a x type) = refl
    binding_same names scope before (local_function a x clauses) = rw (clauses_same scope clauses) refl
    binding_same names scope before (local_pattern a (alternative b pats side wheres)) =
        rw (row_same before pats, side_same (inside_group wheres scope) side, group_same (group_names wheres) (inside_group wheres scope) scope wheres) refl

    group_same : (names : List Bytes) (scope before : Scope) (bs : LocalBindings Span) → spanned_group (bound_group tops names scope before bs) ≡ bs
    group_same names scope before no_bindings = refl
    group_same names scope before (more_bindings b bs) =
        rw (binding_same names scope before b, group_same names scope (entered (names_of (binding_variables b)) before) bs) refl

    statement_same : (scope : Scope) (st : Statement Span) → spanned_statement (bound_statement tops scope st) ≡ st
    statement_same scope (bind_statement a p e) = rw (pattern_same scope p, expression_same scope e) refl
    statement_same scope (let_statement a group) = rw (group_same (group_names group) (inside_group group scope) scope group) refl
    statement_same scope (run_statement a e) = rw (expression_same scope e) refl

    statements_same : (scope : Scope) (ss : Statements Span) → spanned_statements (bound_statements tops scope ss) ≡ ss
    statements_same scope no_statements = refl
    statements_same scope (more_statements st ss) = rw (statement_same scope st, statements_same (inside_statement st scope) ss) refl

  top_clauses_same : (cs : List (Alternative Span)) → map spanned_clause (map (bound_clause tops []) cs) ≡ cs
  top_clauses_same [] = refl
  top_clauses_same (c ∷ cs) = ap (λ z. z ∷ map spanned_clause (map (bound_clause tops []) cs)) (clause_same [] c) ∙ ap (λ z. c ∷ z) (top_clauses_same cs)

  declaration_same : (n : ℕ) (d : Declaration Span) → spanned_declaration (bound_declaration tops n d) ≡ d
  declaration_same n (import_declaration a m) = refl
  declaration_same n (data_declaration a x params constructors) = refl
  declaration_same n (fixity_declaration a side strength names) = refl
  declaration_same n (signature_declaration a names type) = refl
  declaration_same n (function_declaration a x clauses) = ap (function_declaration a x) (top_clauses_same clauses)

  declarations_same : (n : ℕ) (ds : List (Declaration Span)) → map spanned_declaration (bound_declarations tops n ds) ≡ ds
  declarations_same n [] = refl
  declarations_same n (d ∷ ds) = ap (λ z. z ∷ map spanned_declaration (bound_declarations tops (suc n) ds)) (declaration_same n d) ∙ ap (λ z. d ∷ z) (declarations_same (suc n) ds)

pub program_same : (program : PlainProgram Span) → spanned_program (bound_program program) ≡ program
program_same program =
    let whole : List (Declaration Span) → PlainProgram Span = λ ds. record { declarations = ds } in
    ap whole (declarations_same (tops_of program.declarations) 0 program.declarations)
