-- A bound tree with its spans alone.
use Rattle.std.specs.Prelude.{map}
use Rattle.rw_base.specs.declared.place.Span.{Span}
use Rattle.rw_scope_rules.specs.declared.binding.Bound.{Bound}
use Rattle.rw_tree.specs.Patterns.{Pattern, wildcard, variable_pattern, constructor_pattern, tuple_pattern, Patterns, no_patterns, more_patterns}
use Rattle.rw_tree.specs.Trees.{Expression, variable, constructor, application, tuple, chain, lambda, let_in, if_then_else, case_of, do_block, Expressions, no_expressions, more_expressions}
use Rattle.rw_tree.specs.Trees.{Alternative, alternative, Alternatives, no_alternatives, more_alternatives, RightSide, plain_side, guarded_side, GuardedBody, guarded_body, GuardedBodies, no_bodies, more_bodies}
use Rattle.rw_tree.specs.Trees.{LocalBinding, local_signature, local_function, local_pattern, LocalBindings, no_bindings, more_bindings, Statement, bind_statement, let_statement, run_statement, Statements, no_statements, more_statements}
use Rattle.rw_tree.specs.Declarations.{Declaration, import_declaration, data_declaration, fixity_declaration, signature_declaration, function_declaration, PlainProgram}

abbrev mutual
  pub spanned_pattern : Pattern Bound → Pattern Span
  spanned_pattern (wildcard a) = wildcard a.span
  spanned_pattern (variable_pattern a x) = variable_pattern a.span x
  spanned_pattern (constructor_pattern a c parts) = constructor_pattern a.span c (spanned_parts parts)
  spanned_pattern (tuple_pattern a parts) = tuple_pattern a.span (spanned_parts parts)

  pub spanned_parts : Patterns Bound → Patterns Span
  spanned_parts no_patterns = no_patterns
  spanned_parts (more_patterns p ps) = more_patterns (spanned_pattern p) (spanned_parts ps)

abbrev mutual
  pub spanned_expression : Expression Bound → Expression Span
  spanned_expression (variable a x) = variable a.span x
  spanned_expression (constructor a c) = constructor a.span c
  spanned_expression (application a head parts) = application a.span (spanned_expression head) (spanned_expressions parts)
  spanned_expression (tuple a parts) = tuple a.span (spanned_expressions parts)
  spanned_expression (chain a operands operators) = chain a.span (spanned_expressions operands) (spanned_expressions operators)
  spanned_expression (lambda a pats body) = lambda a.span (map spanned_pattern pats) (spanned_expression body)
  spanned_expression (let_in a group body) = let_in a.span (spanned_group group) (spanned_expression body)
  spanned_expression (if_then_else a test first second) = if_then_else a.span (spanned_expression test) (spanned_expression first) (spanned_expression second)
  spanned_expression (case_of a scrutinee rows) = case_of a.span (spanned_expression scrutinee) (spanned_clauses rows)
  spanned_expression (do_block a statements) = do_block a.span (spanned_statements statements)

  pub spanned_expressions : Expressions Bound → Expressions Span
  spanned_expressions no_expressions = no_expressions
  spanned_expressions (more_expressions e es) = more_expressions (spanned_expression e) (spanned_expressions es)

  pub spanned_clause : Alternative Bound → Alternative Span
  spanned_clause (alternative a pats side wheres) = alternative a.span (map spanned_pattern pats) (spanned_side side) (spanned_group wheres)

  pub spanned_clauses : Alternatives Bound → Alternatives Span
  spanned_clauses no_alternatives = no_alternatives
  spanned_clauses (more_alternatives c cs) = more_alternatives (spanned_clause c) (spanned_clauses cs)

  pub spanned_side : RightSide Bound → RightSide Span
  spanned_side (plain_side body) = plain_side (spanned_expression body)
  spanned_side (guarded_side bodies) = guarded_side (spanned_bodies bodies)

  pub spanned_body : GuardedBody Bound → GuardedBody Span
  spanned_body (guarded_body test body) = guarded_body (spanned_expression test) (spanned_expression body)

  pub spanned_bodies : GuardedBodies Bound → GuardedBodies Span
  spanned_bodies no_bodies = no_bodies
  spanned_bodies (more_bodies b bs) = more_bodies (spanned_body b) (spanned_bodies bs)

  pub spanned_binding : LocalBinding Bound → LocalBinding Span
  spanned_binding (local_signature a x type) = local_signature a.span x type
  spanned_binding (local_function a x clauses) = local_function a.span x (spanned_clauses clauses)
  spanned_binding (local_pattern a row) = local_pattern a.span (spanned_clause row)

  pub spanned_group : LocalBindings Bound → LocalBindings Span
  spanned_group no_bindings = no_bindings
  spanned_group (more_bindings b bs) = more_bindings (spanned_binding b) (spanned_group bs)

  pub spanned_statement : Statement Bound → Statement Span
  spanned_statement (bind_statement a p e) = bind_statement a.span (spanned_pattern p) (spanned_expression e)
  spanned_statement (let_statement a group) = let_statement a.span (spanned_group group)
  spanned_statement (run_statement a e) = run_statement a.span (spanned_expression e)

  pub spanned_statements : Statements Bound → Statements Span
  spanned_statements no_statements = no_statements
  spanned_statements (more_statements s ss) = more_statements (spanned_statement s) (spanned_statements ss)

abbrev pub spanned_declaration : Declaration Bound → Declaration Span
spanned_declaration (import_declaration a m) = import_declaration a.span m
spanned_declaration (data_declaration a x params constructors) = data_declaration a.span x params constructors
spanned_declaration (fixity_declaration a side strength names) = fixity_declaration a.span side strength names
spanned_declaration (signature_declaration a names type) = signature_declaration a.span names type
spanned_declaration (function_declaration a x clauses) = function_declaration a.span x (map spanned_clause clauses)

abbrev pub spanned_program : PlainProgram Bound → PlainProgram Span
spanned_program program = record { declarations = map spanned_declaration program.declarations }
