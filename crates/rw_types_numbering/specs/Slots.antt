-- The numbers of a bound tree by their kinds: for each node one for its type, and after it one for each argument of its instance.
-- A node stands before its parts, and these from left to right.
use Rattle.std.specs.Prelude.{List, [], ◌∷◌, ◌++◌, Bool, true, false}
use Rattle.rw_scope_rules.specs.declared.binding.Bound.{Bound}
use Rattle.rw_scope_rules.specs.declared.binding.Operation.TheVariants.{Bind, Then}
use Rattle.rw_tree.specs.Patterns.{Pattern, wildcard, variable_pattern, constructor_pattern, tuple_pattern, Patterns, no_patterns, more_patterns}
use Rattle.rw_tree.specs.Trees.{Expression, variable, constructor, application, tuple, chain, lambda, let_in, if_then_else, case_of, do_block, Expressions, no_expressions, more_expressions}
use Rattle.rw_tree.specs.Trees.{Alternative, alternative, Alternatives, no_alternatives, more_alternatives, RightSide, plain_side, guarded_side, GuardedBody, guarded_body, GuardedBodies, no_bodies, more_bodies}
use Rattle.rw_tree.specs.Trees.{LocalBinding, local_signature, local_function, local_pattern, LocalBindings, no_bindings, more_bindings, Statement, bind_statement, let_statement, run_statement, Statements, no_statements, more_statements}
use Rattle.rw_tree.specs.Declarations.{Declaration, import_declaration, data_declaration, fixity_declaration, signature_declaration, function_declaration}
use Rattle.rw_types_rules.specs.declared.kind.VariableKind.{VariableKind}
use Rattle.rw_types_rules.specs.declared.kind.VariableKind.TheVariants.{Plain}
use Rattle.rw_types_rules.specs.Schemes.{operation_scheme, World, scheme_at}
use Rattle.rw_types_rules.specs.TypedTrees.{are_none}
use Rattle.rw_types_rules.specs.Typings.{scheme_kinds}

module _ (world : World) where
  -- the kinds of the arguments of what a name is bound to
  abbrev pub name_kinds : Bound → List VariableKind
  name_kinds a = scheme_kinds (scheme_at world a.bound)

  abbrev mutual
    pub pattern_slots : Pattern Bound → List VariableKind
    pattern_slots (wildcard a) = Plain ∷ []
    pattern_slots (variable_pattern a x) = Plain ∷ []
    pattern_slots (constructor_pattern a c parts) = Plain ∷ name_kinds a ++ parts_slots parts
    pattern_slots (tuple_pattern a parts) = Plain ∷ parts_slots parts

    pub parts_slots : Patterns Bound → List VariableKind
    parts_slots no_patterns = []
    parts_slots (more_patterns p ps) = pattern_slots p ++ parts_slots ps

  -- of the patterns of a clause
  abbrev pub row_slots : List (Pattern Bound) → List VariableKind
  row_slots [] = []
  row_slots (p ∷ ps) = pattern_slots p ++ row_slots ps

  abbrev mutual
    pub expression_slots : Expression Bound → List VariableKind
    expression_slots (variable a x) = Plain ∷ name_kinds a
    expression_slots (constructor a c) = Plain ∷ name_kinds a
    expression_slots (application a head parts) = Plain ∷ expression_slots head ++ expressions_slots parts
    expression_slots (tuple a parts) = Plain ∷ expressions_slots parts
    expression_slots (chain a operands operators) = Plain ∷ expressions_slots operands ++ expressions_slots operators
    expression_slots (lambda a pats body) = Plain ∷ row_slots pats ++ expression_slots body
    expression_slots (let_in a group body) = Plain ∷ group_slots group ++ expression_slots body
    expression_slots (if_then_else a test first second) = Plain ∷ expression_slots test ++ (expression_slots first ++ expression_slots second)
    expression_slots (case_of a scrutinee rows) = Plain ∷ expression_slots scrutinee ++ clauses_slots rows
    expression_slots (do_block a statements) = Plain ∷ statements_slots statements

    pub expressions_slots : Expressions Bound → List VariableKind
    expressions_slots no_expressions = []
    expressions_slots (more_expressions e es) = expression_slots e ++ expressions_slots es

    pub clause_slots : Alternative Bound → List VariableKind
    clause_slots (alternative a pats side wheres) = Plain ∷ row_slots pats ++ (side_slots side ++ group_slots wheres)

    pub clauses_slots : Alternatives Bound → List VariableKind
    clauses_slots no_alternatives = []
    clauses_slots (more_alternatives c cs) = clause_slots c ++ clauses_slots cs

    pub side_slots : RightSide Bound → List VariableKind
    side_slots (plain_side body) = expression_slots body
    side_slots (guarded_side bodies) = bodies_slots bodies

    pub body_slots : GuardedBody Bound → List VariableKind
    body_slots (guarded_body test body) = expression_slots test ++ expression_slots body

    pub bodies_slots : GuardedBodies Bound → List VariableKind
    bodies_slots no_bodies = []
    bodies_slots (more_bodies b bs) = body_slots b ++ bodies_slots bs

    pub binding_slots : LocalBinding Bound → List VariableKind
    binding_slots (local_signature a x type) = Plain ∷ []
    binding_slots (local_function a x clauses) = Plain ∷ clauses_slots clauses
    binding_slots (local_pattern a bound) = Plain ∷ clause_slots bound

    pub group_slots : LocalBindings Bound → List VariableKind
    group_slots no_bindings = []
    group_slots (more_bindings b bs) = binding_slots b ++ group_slots bs

    -- of a statement, the last of its block or another. A bind statement is of an instance of `>>=`, and an expression alone of one of
    -- `>>`, but the last of its block of none
    pub statement_slots : Bool → Statement Bound → List VariableKind
    statement_slots last (bind_statement a p e) = Plain ∷ (operation_scheme Bind).kinds ++ (pattern_slots p ++ expression_slots e)
    statement_slots last (let_statement a group) = Plain ∷ group_slots group
    statement_slots true (run_statement a e) = Plain ∷ expression_slots e
    statement_slots false (run_statement a e) = Plain ∷ (operation_scheme Then).kinds ++ expression_slots e

    pub statements_slots : Statements Bound → List VariableKind
    statements_slots no_statements = []
    statements_slots (more_statements s ss) = statement_slots (are_none ss) s ++ statements_slots ss

  -- of the clauses of a declaration
  abbrev pub all_clauses_slots : List (Alternative Bound) → List VariableKind
  all_clauses_slots [] = []
  all_clauses_slots (c ∷ cs) = clause_slots c ++ all_clauses_slots cs

  -- of a declaration: only a function has parts
  abbrev pub declaration_slots : Declaration Bound → List VariableKind
  declaration_slots (import_declaration a m) = Plain ∷ []
  declaration_slots (data_declaration a x params constructors) = Plain ∷ []
  declaration_slots (fixity_declaration a side strength names) = Plain ∷ []
  declaration_slots (signature_declaration a names type) = Plain ∷ []
  declaration_slots (function_declaration a x clauses) = Plain ∷ all_clauses_slots clauses
