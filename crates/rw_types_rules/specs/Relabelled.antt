-- The same tree with something else at each node: f of what stood there.
use Rattle.std.specs.Prelude.{List, map}
use Rattle.rw_tree.specs.Patterns.{Pattern, wildcard, variable_pattern, constructor_pattern, tuple_pattern, Patterns, no_patterns, more_patterns}
use Rattle.rw_tree.specs.Trees.{Expression, variable, constructor, application, tuple, chain, lambda, let_in, if_then_else, case_of, do_block, Expressions, no_expressions, more_expressions}
use Rattle.rw_tree.specs.Trees.{Alternative, alternative, Alternatives, no_alternatives, more_alternatives, RightSide, plain_side, guarded_side, GuardedBody, guarded_body, GuardedBodies, no_bodies, more_bodies}
use Rattle.rw_tree.specs.Trees.{LocalBinding, local_signature, local_function, local_pattern, LocalBindings, no_bindings, more_bindings, Statement, bind_statement, let_statement, run_statement, Statements, no_statements, more_statements}
use Rattle.rw_tree.specs.Declarations.{Declaration, import_declaration, data_declaration, fixity_declaration, signature_declaration, function_declaration}

module _ {X Y : Type 0} (f : X → Y) where
  abbrev mutual
    pub relabelled_pattern : Pattern X → Pattern Y
    relabelled_pattern (wildcard a) = wildcard (f a)
    relabelled_pattern (variable_pattern a x) = variable_pattern (f a) x
    relabelled_pattern (constructor_pattern a c parts) = constructor_pattern (f a) c (relabelled_parts parts)
    relabelled_pattern (tuple_pattern a parts) = tuple_pattern (f a) (relabelled_parts parts)

    pub relabelled_parts : Patterns X → Patterns Y
    relabelled_parts no_patterns = no_patterns
    relabelled_parts (more_patterns p ps) = more_patterns (relabelled_pattern p) (relabelled_parts ps)

  abbrev pub relabelled_row : List (Pattern X) → List (Pattern Y)
  relabelled_row pats = map relabelled_pattern pats

  abbrev mutual
    pub relabelled_expression : Expression X → Expression Y
    relabelled_expression (variable a x) = variable (f a) x
    relabelled_expression (constructor a c) = constructor (f a) c
    relabelled_expression (application a head parts) = application (f a) (relabelled_expression head) (relabelled_expressions parts)
    relabelled_expression (tuple a parts) = tuple (f a) (relabelled_expressions parts)
    relabelled_expression (chain a operands operators) = chain (f a) (relabelled_expressions operands) (relabelled_expressions operators)
    relabelled_expression (lambda a pats body) = lambda (f a) (relabelled_row pats) (relabelled_expression body)
    relabelled_expression (let_in a group body) = let_in (f a) (relabelled_group group) (relabelled_expression body)
    relabelled_expression (if_then_else a test first second) =
        if_then_else (f a) (relabelled_expression test) (relabelled_expression first) (relabelled_expression second)
    relabelled_expression (case_of a scrutinee rows) = case_of (f a) (relabelled_expression scrutinee) (relabelled_alternatives rows)
    relabelled_expression (do_block a statements) = do_block (f a) (relabelled_statements statements)

    pub relabelled_expressions : Expressions X → Expressions Y
    relabelled_expressions no_expressions = no_expressions
    relabelled_expressions (more_expressions e es) = more_expressions (relabelled_expression e) (relabelled_expressions es)

    pub relabelled_alternative : Alternative X → Alternative Y
    relabelled_alternative (alternative a pats side wheres) = alternative (f a) (relabelled_row pats) (relabelled_side side) (relabelled_group wheres)

    pub relabelled_alternatives : Alternatives X → Alternatives Y
    relabelled_alternatives no_alternatives = no_alternatives
    relabelled_alternatives (more_alternatives c cs) = more_alternatives (relabelled_alternative c) (relabelled_alternatives cs)

    pub relabelled_side : RightSide X → RightSide Y
    relabelled_side (plain_side body) = plain_side (relabelled_expression body)
    relabelled_side (guarded_side bodies) = guarded_side (relabelled_bodies bodies)

    pub relabelled_body : GuardedBody X → GuardedBody Y
    relabelled_body (guarded_body test body) = guarded_body (relabelled_expression test) (relabelled_expression body)

    pub relabelled_bodies : GuardedBodies X → GuardedBodies Y
    relabelled_bodies no_bodies = no_bodies
    relabelled_bodies (more_bodies b bs) = more_bodies (relabelled_body b) (relabelled_bodies bs)

    pub relabelled_binding : LocalBinding X → LocalBinding Y
    relabelled_binding (local_signature a x type) = local_signature (f a) x type
    relabelled_binding (local_function a x clauses) = local_function (f a) x (relabelled_alternatives clauses)
    relabelled_binding (local_pattern a bound) = local_pattern (f a) (relabelled_alternative bound)

    pub relabelled_group : LocalBindings X → LocalBindings Y
    relabelled_group no_bindings = no_bindings
    relabelled_group (more_bindings b bs) = more_bindings (relabelled_binding b) (relabelled_group bs)

    pub relabelled_statement : Statement X → Statement Y
    relabelled_statement (bind_statement a p e) = bind_statement (f a) (relabelled_pattern p) (relabelled_expression e)
    relabelled_statement (let_statement a group) = let_statement (f a) (relabelled_group group)
    relabelled_statement (run_statement a e) = run_statement (f a) (relabelled_expression e)

    pub relabelled_statements : Statements X → Statements Y
    relabelled_statements no_statements = no_statements
    relabelled_statements (more_statements s ss) = more_statements (relabelled_statement s) (relabelled_statements ss)

  abbrev pub relabelled_declaration : Declaration X → Declaration Y
  relabelled_declaration (import_declaration a m) = import_declaration (f a) m
  relabelled_declaration (data_declaration a x params constructors) = data_declaration (f a) x params constructors
  relabelled_declaration (fixity_declaration a side strength names) = fixity_declaration (f a) side strength names
  relabelled_declaration (signature_declaration a names type) = signature_declaration (f a) names type
  relabelled_declaration (function_declaration a x clauses) = function_declaration (f a) x (map relabelled_alternative clauses)
