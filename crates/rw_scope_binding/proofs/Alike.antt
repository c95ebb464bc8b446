-- A tree is bound alike by tops that say the same of each name.
use Rattle.std.proofs.Common.{◌≡◌, ℕ, suc, List, [], ◌∷◌, map, refl, ap, ◌∙◌}
use Rattle.rw_base.specs.declared.place.Span.{Span}
use Rattle.rw_tree.specs.Patterns.{Pattern, wildcard, variable_pattern, constructor_pattern, tuple_pattern, Patterns, no_patterns, more_patterns}
use Rattle.rw_tree.specs.Trees.{Expression, variable, constructor, application, tuple, chain, lambda, let_in, if_then_else, case_of, do_block, Expressions, no_expressions, more_expressions}
use Rattle.rw_tree.specs.Trees.{Alternative, alternative, Alternatives, no_alternatives, more_alternatives, RightSide, plain_side, guarded_side, GuardedBody, guarded_body, GuardedBodies, no_bodies, more_bodies}
use Rattle.rw_tree.specs.Trees.{LocalBinding, local_signature, local_function, local_pattern, LocalBindings, no_bindings, more_bindings, Statement, bind_statement, let_statement, run_statement, Statements, no_statements, more_statements}
use Rattle.rw_tree.specs.Declarations.{Declaration, import_declaration, data_declaration, fixity_declaration, signature_declaration, function_declaration}
use Rattle.rw_scope_rules.specs.Names.{Bytes, first_named}
use Rattle.rw_scope_rules.specs.Bindings.{Tops, Scope, entered, names_of, binding_variables, inside, inside_row, inside_group, inside_statement, group_names, unnamed, bound_pattern, bound_parts, bound_row, bound_expression, bound_expressions, bound_clause, bound_clauses, bound_side, bound_body, bound_bodies, bound_binding, bound_group, bound_statement, bound_statements, bound_declaration, bound_declarations}

module _ (s t : Tops) (same_variables : (x : Bytes) → first_named x s.variables ≡ first_named x t.variables) (same_constructors : (x : Bytes) → first_named x s.constructors ≡ first_named x t.constructors) where
  mutual
    pub pattern_alike : (scope : Scope) (p : Pattern Span) → bound_pattern s scope p ≡ bound_pattern t scope p
    pattern_alike scope (wildcard a) = refl
    pattern_alike scope (variable_pattern a x) = refl
    pattern_alike scope (constructor_pattern a c parts) = rw (same_constructors c, parts_alike scope parts) refl
    pattern_alike scope (tuple_pattern a parts) = rw (parts_alike scope parts) refl

    pub parts_alike : (scope : Scope) (ps : Patterns Span) → bound_parts s scope ps ≡ bound_parts t scope ps
    parts_alike scope no_patterns = refl
    parts_alike scope (more_patterns p ps) = rw (pattern_alike scope p, parts_alike (inside p scope) ps) refl

  row_alike : (scope : Scope) (ps : List (Pattern Span)) → bound_row s scope ps ≡ bound_row t scope ps
  row_alike scope [] = refl
  row_alike scope (p ∷ ps) = rw (pattern_alike scope p, row_alike (inside p scope) ps) refl

  mutual
    pub expression_alike : (scope : Scope) (e : Expression Span) → bound_expression s scope e ≡ bound_expression t scope e
    expression_alike scope (variable a x) = rw (same_variables x) refl
    expression_alike scope (constructor a c) = rw (same_constructors c) refl
    expression_alike scope (application a head parts) = rw (expression_alike scope head, expressions_alike scope parts) refl
    expression_alike scope (tuple a parts) = rw (expressions_alike scope parts) refl
    expression_alike scope (chain a operands operators) =
        ap (λ z. chain (unnamed a) z (bound_expressions s scope operators)) (expressions_alike scope operands) ∙ ap (chain (unnamed a) (bound_expressions t scope operands)) (expressions_alike scope operators)
    expression_alike scope (lambda a pats body) = rw (row_alike scope pats, expression_alike (inside_row pats scope) body) refl
    expression_alike scope (let_in a group body) =
        rw (group_alike (group_names group) (inside_group group scope) scope group, expression_alike (inside_group group scope) body) refl
    expression_alike scope (if_then_else a test first second) =
        ap (λ z. if_then_else (unnamed a) z (bound_expression s scope first) (bound_expression s scope second)) (expression_alike scope test)
        ∙ ap (λ z. if_then_else (unnamed a) (bound_expression t scope test) z (bound_expression s scope second)) (expression_alike scope first)
        ∙ ap (if_then_else (unnamed a) (bound_expression t scope test) (bound_expression t scope first)) (expression_alike scope second)
    expression_alike scope (case_of a scrutinee rows) = rw (expression_alike scope scrutinee, clauses_alike scope rows) refl
    expression_alike scope (do_block a statements) = rw (statements_alike scope statements) refl

    pub expressions_alike : (scope : Scope) (es : Expressions Span) → bound_expressions s scope es ≡ bound_expressions t scope es
    expressions_alike scope no_expressions = refl
    expressions_alike scope (more_expressions e es) = rw (expression_alike scope e, expressions_alike scope es) refl

    pub clause_alike : (scope : Scope) (c : Alternative Span) → bound_clause s scope c ≡ bound_clause t scope c
    clause_alike scope (alternative a pats side wheres) =
        rw (
          row_alike scope pats,
          side_alike (inside_group wheres (inside_row pats scope)) side,
          group_alike (group_names wheres) (inside_group wheres (inside_row pats scope)) (inside_row pats scope) wheres,
        ) refl

    pub clauses_alike : (scope : Scope) (cs : Alternatives Span) → bound_clauses s scope cs ≡ bound_clauses t scope cs
    clauses_alike scope no_alternatives = refl
    clauses_alike scope (more_alternatives c cs) = rw (clause_alike scope c, clauses_alike scope cs) refl

    side_alike : (scope : Scope) (side : RightSide Span) → bound_side s scope side ≡ bound_side t scope side
    side_alike scope (plain_side body) = rw (expression_alike scope body) refl
    side_alike scope (guarded_side bodies) = rw (bodies_alike scope bodies) refl

    body_alike : (scope : Scope) (b : GuardedBody Span) → bound_body s scope b ≡ bound_body t scope b
    body_alike scope (guarded_body test body) =
        ap (λ z. guarded_body z (bound_expression s scope body)) (expression_alike scope test) ∙ ap (guarded_body (bound_expression t scope test)) (expression_alike scope body)

    bodies_alike : (scope : Scope) (bs : GuardedBodies Span) → bound_bodies s scope bs ≡ bound_bodies t scope bs
    bodies_alike scope no_bodies = refl
    bodies_alike scope (more_bodies b bs) = rw (body_alike scope b, bodies_alike scope bs) refl

    binding_alike : (names : List Bytes) (scope before : Scope) (b : LocalBinding Span) → bound_binding s names scope before b ≡ bound_binding t names scope before b
    binding_alike names scope before (local_signature a x type) = refl
    binding_alike names scope before (local_function a x clauses) = rw (clauses_alike scope clauses) refl
    binding_alike names scope before (local_pattern a (alternative b pats side wheres)) =
        rw (row_alike before pats, side_alike (inside_group wheres scope) side, group_alike (group_names wheres) (inside_group wheres scope) scope wheres) refl

    group_alike : (names : List Bytes) (scope before : Scope) (bs : LocalBindings Span) → bound_group s names scope before bs ≡ bound_group t names scope before bs
    group_alike names scope before no_bindings = refl
    group_alike names scope before (more_bindings b bs) =
        rw (binding_alike names scope before b, group_alike names scope (entered (names_of (binding_variables b)) before) bs) refl

    statement_alike : (scope : Scope) (st : Statement Span) → bound_statement s scope st ≡ bound_statement t scope st
    statement_alike scope (bind_statement a p e) = rw (pattern_alike scope p, expression_alike scope e) refl
    statement_alike scope (let_statement a group) = rw (group_alike (group_names group) (inside_group group scope) scope group) refl
    statement_alike scope (run_statement a e) = rw (expression_alike scope e) refl

    statements_alike : (scope : Scope) (ss : Statements Span) → bound_statements s scope ss ≡ bound_statements t scope ss
    statements_alike scope no_statements = refl
    statements_alike scope (more_statements st ss) = rw (statement_alike scope st, statements_alike (inside_statement st scope) ss) refl

  top_clauses_alike : (cs : List (Alternative Span)) → map (bound_clause s []) cs ≡ map (bound_clause t []) cs
  top_clauses_alike [] = refl
  top_clauses_alike (c ∷ cs) = rw (clause_alike [] c, top_clauses_alike cs) refl

  declaration_alike : (n : ℕ) (d : Declaration Span) → bound_declaration s n d ≡ bound_declaration t n d
  declaration_alike n (import_declaration a m) = refl
  declaration_alike n (data_declaration a x params constructors) = refl
  declaration_alike n (fixity_declaration a side strength names) = refl
  declaration_alike n (signature_declaration a names type) = refl
  declaration_alike n (function_declaration a x clauses) = rw (top_clauses_alike clauses) refl

  pub declarations_alike : (n : ℕ) (ds : List (Declaration Span)) → bound_declarations s n ds ≡ bound_declarations t n ds
  declarations_alike n [] = refl
  declarations_alike n (d ∷ ds) = rw (declaration_alike n d, declarations_alike (suc n) ds) refl
