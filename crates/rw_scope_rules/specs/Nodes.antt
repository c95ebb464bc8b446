-- The nodes of a program's functions: what every rule that may be broken inside a declaration asks, one node after the other.
use Rattle.std.specs.Prelude.{List, [], ◌∷◌, ◌++◌, flat_map}
use Rattle.rw_tree.specs.Patterns.{Pattern, wildcard, variable_pattern, constructor_pattern, tuple_pattern, Patterns, no_patterns, more_patterns}
use Rattle.rw_tree.specs.Trees.{Expression, variable, constructor, application, tuple, chain, lambda, let_in, if_then_else, case_of, do_block, Expressions, no_expressions, more_expressions}
use Rattle.rw_tree.specs.Trees.{Alternative, alternative, Alternatives, no_alternatives, more_alternatives, RightSide, plain_side, guarded_side, GuardedBody, guarded_body, GuardedBodies, no_bodies, more_bodies}
use Rattle.rw_tree.specs.Trees.{LocalBinding, local_signature, local_function, local_pattern, LocalBindings, no_bindings, more_bindings, Statement, bind_statement, let_statement, run_statement, Statements, no_statements, more_statements}
use Rattle.rw_tree.specs.Declarations.{Declaration, function_declaration, PlainProgram}

-- a node of a tree. A group is what one `let` or `where` binds (Haskell 2010 Report, sections 3.12 and 4.4.3)
pub data Node (X : Type 0) : Type 0 where
  expression_node : Expression X → Node X
  pattern_node : Pattern X → Node X
  clause_node : Alternative X → Node X
  group_node : LocalBindings X → Node X
  binding_node : LocalBinding X → Node X
  statement_node : Statement X → Node X

abbrev mutual
  pub pattern_nodes : {X : Type 0} → Pattern X → List (Node X)
  pattern_nodes (wildcard a) = pattern_node (wildcard a) ∷ []
  pattern_nodes (variable_pattern a x) = pattern_node (variable_pattern a x) ∷ []
  pattern_nodes (constructor_pattern a c parts) = pattern_node (constructor_pattern a c parts) ∷ parts_nodes parts
  pattern_nodes (tuple_pattern a parts) = pattern_node (tuple_pattern a parts) ∷ parts_nodes parts

  pub parts_nodes : {X : Type 0} → Patterns X → List (Node X)
  parts_nodes no_patterns = []
  parts_nodes (more_patterns p ps) = pattern_nodes p ++ parts_nodes ps

-- of the patterns of a clause
abbrev pub row_nodes : {X : Type 0} → List (Pattern X) → List (Node X)
row_nodes pats = flat_map pattern_nodes pats

abbrev mutual
  pub expression_nodes : {X : Type 0} → Expression X → List (Node X)
  expression_nodes (variable a x) = expression_node (variable a x) ∷ []
  expression_nodes (constructor a c) = expression_node (constructor a c) ∷ []
  expression_nodes (application a head parts) = expression_node (application a head parts) ∷ expression_nodes head ++ expressions_nodes parts
  expression_nodes (tuple a parts) = expression_node (tuple a parts) ∷ expressions_nodes parts
  expression_nodes (chain a operands operators) = expression_node (chain a operands operators) ∷ expressions_nodes operands ++ expressions_nodes operators
  expression_nodes (lambda a pats body) = expression_node (lambda a pats body) ∷ row_nodes pats ++ expression_nodes body
  expression_nodes (let_in a group body) = expression_node (let_in a group body) ∷ group_node group ∷ group_nodes group ++ expression_nodes body
  expression_nodes (if_then_else a test first second) =
      expression_node (if_then_else a test first second) ∷ expression_nodes test ++ (expression_nodes first ++ expression_nodes second)
  expression_nodes (case_of a scrutinee rows) = expression_node (case_of a scrutinee rows) ∷ expression_nodes scrutinee ++ clauses_nodes rows
  expression_nodes (do_block a statements) = expression_node (do_block a statements) ∷ statements_nodes statements

  pub expressions_nodes : {X : Type 0} → Expressions X → List (Node X)
  expressions_nodes no_expressions = []
  expressions_nodes (more_expressions e es) = expression_nodes e ++ expressions_nodes es

  pub clause_nodes : {X : Type 0} → Alternative X → List (Node X)
  clause_nodes (alternative a pats side wheres) =
      clause_node (alternative a pats side wheres) ∷ row_nodes pats ++ (side_nodes side ++ (group_node wheres ∷ group_nodes wheres))

  pub clauses_nodes : {X : Type 0} → Alternatives X → List (Node X)
  clauses_nodes no_alternatives = []
  clauses_nodes (more_alternatives c cs) = clause_nodes c ++ clauses_nodes cs

  pub side_nodes : {X : Type 0} → RightSide X → List (Node X)
  side_nodes (plain_side body) = expression_nodes body
  side_nodes (guarded_side bodies) = bodies_nodes bodies

  pub body_nodes : {X : Type 0} → GuardedBody X → List (Node X)
  body_nodes (guarded_body test body) = expression_nodes test ++ expression_nodes body

  pub bodies_nodes : {X : Type 0} → GuardedBodies X → List (Node X)
  bodies_nodes no_bodies = []
  bodies_nodes (more_bodies b bs) = body_nodes b ++ bodies_nodes bs

  pub binding_nodes : {X : Type 0} → LocalBinding X → List (Node X)
  binding_nodes (local_signature a x type) = binding_node (local_signature a x type) ∷ []
  binding_nodes (local_function a x clauses) = binding_node (local_function a x clauses) ∷ clauses_nodes clauses
  binding_nodes (local_pattern a bound) = binding_node (local_pattern a bound) ∷ clause_nodes bound

  pub group_nodes : {X : Type 0} → LocalBindings X → List (Node X)
  group_nodes no_bindings = []
  group_nodes (more_bindings b bs) = binding_nodes b ++ group_nodes bs

  pub statement_nodes : {X : Type 0} → Statement X → List (Node X)
  statement_nodes (bind_statement a p e) = statement_node (bind_statement a p e) ∷ pattern_nodes p ++ expression_nodes e
  statement_nodes (let_statement a group) = statement_node (let_statement a group) ∷ group_node group ∷ group_nodes group
  statement_nodes (run_statement a e) = statement_node (run_statement a e) ∷ expression_nodes e

  pub statements_nodes : {X : Type 0} → Statements X → List (Node X)
  statements_nodes no_statements = []
  statements_nodes (more_statements s ss) = statement_nodes s ++ statements_nodes ss

-- of a declaration: a function has nodes
abbrev pub declaration_nodes : {X : Type 0} → Declaration X → List (Node X)
declaration_nodes (function_declaration a x clauses) = flat_map clause_nodes clauses
declaration_nodes _ = []

-- the nodes of a program, in the order of its declarations
abbrev pub program_nodes : {X : Type 0} → PlainProgram X → List (Node X)
program_nodes program = flat_map declaration_nodes program.declarations

-- the local bindings of a group, in order
abbrev pub bindings_of : {X : Type 0} → LocalBindings X → List (LocalBinding X)
bindings_of no_bindings = []
bindings_of (more_bindings b bs) = b ∷ bindings_of bs

-- the clauses of a local function, in order
abbrev pub clauses_of : {X : Type 0} → Alternatives X → List (Alternative X)
clauses_of no_alternatives = []
clauses_of (more_alternatives c cs) = c ∷ clauses_of cs
