-- The types of a typed tree in the order of its numbers: at each node its type and its arguments, then those of its parts.
use Rattle.std.specs.Prelude.{◌≡◌, ℕ, suc, List, [], ◌∷◌, ◌++◌}
use Rattle.rw_tree.specs.Patterns.{Pattern, wildcard, variable_pattern, constructor_pattern, tuple_pattern, Patterns, no_patterns, more_patterns}
use Rattle.rw_tree.specs.Trees.{Expression, variable, constructor, application, tuple, chain, lambda, let_in, if_then_else, case_of, do_block, Expressions, no_expressions, more_expressions}
use Rattle.rw_tree.specs.Trees.{Alternative, alternative, Alternatives, no_alternatives, more_alternatives, RightSide, plain_side, guarded_side, GuardedBody, guarded_body, GuardedBodies, no_bodies, more_bodies}
use Rattle.rw_tree.specs.Trees.{LocalBinding, local_signature, local_function, local_pattern, LocalBindings, no_bindings, more_bindings, Statement, bind_statement, let_statement, run_statement, Statements, no_statements, more_statements}
use Rattle.rw_tree.specs.Declarations.{Declaration, import_declaration, data_declaration, fixity_declaration, signature_declaration, function_declaration}
use Rattle.rw_types_solving.specs.Types.{Ty}
use Rattle.rw_types_rules.specs.TypedTrees.{TypedNode}

-- t gives the numbers from n on the types of the list
abbrev pub Spells : (ℕ → Ty) → ℕ → List Ty → Type 0
Spells t n [] = Unit {0}
Spells t n (type ∷ types) = (t n ≡ type) × Spells t (suc n) types

abbrev mutual
  pub pattern_carried : Pattern TypedNode → List Ty
  pattern_carried (wildcard a) = a.type ∷ a.arguments
  pattern_carried (variable_pattern a x) = a.type ∷ a.arguments
  pattern_carried (constructor_pattern a c parts) = a.type ∷ a.arguments ++ parts_carried parts
  pattern_carried (tuple_pattern a parts) = a.type ∷ a.arguments ++ parts_carried parts

  pub parts_carried : Patterns TypedNode → List Ty
  parts_carried no_patterns = []
  parts_carried (more_patterns p ps) = pattern_carried p ++ parts_carried ps

abbrev pub row_carried : List (Pattern TypedNode) → List Ty
row_carried [] = []
row_carried (p ∷ ps) = pattern_carried p ++ row_carried ps

abbrev mutual
  pub expression_carried : Expression TypedNode → List Ty
  expression_carried (variable a x) = a.type ∷ a.arguments
  expression_carried (constructor a c) = a.type ∷ a.arguments
  expression_carried (application a head parts) = a.type ∷ a.arguments ++ (expression_carried head ++ expressions_carried parts)
  expression_carried (tuple a parts) = a.type ∷ a.arguments ++ expressions_carried parts
  expression_carried (chain a operands operators) = a.type ∷ a.arguments ++ (expressions_carried operands ++ expressions_carried operators)
  expression_carried (lambda a pats body) = a.type ∷ a.arguments ++ (row_carried pats ++ expression_carried body)
  expression_carried (let_in a group body) = a.type ∷ a.arguments ++ (group_carried group ++ expression_carried body)
  expression_carried (if_then_else a test first second) = a.type ∷ a.arguments ++ (expression_carried test ++ (expression_carried first ++ expression_carried second))
  expression_carried (case_of a scrutinee rows) = a.type ∷ a.arguments ++ (expression_carried scrutinee ++ clauses_carried rows)
  expression_carried (do_block a statements) = a.type ∷ a.arguments ++ statements_carried statements

  pub expressions_carried : Expressions TypedNode → List Ty
  expressions_carried no_expressions = []
  expressions_carried (more_expressions e es) = expression_carried e ++ expressions_carried es

  pub clause_carried : Alternative TypedNode → List Ty
  clause_carried (alternative a pats side wheres) = a.type ∷ a.arguments ++ (row_carried pats ++ (side_carried side ++ group_carried wheres))

  pub clauses_carried : Alternatives TypedNode → List Ty
  clauses_carried no_alternatives = []
  clauses_carried (more_alternatives c cs) = clause_carried c ++ clauses_carried cs

  pub side_carried : RightSide TypedNode → List Ty
  side_carried (plain_side body) = expression_carried body
  side_carried (guarded_side bodies) = bodies_carried bodies

  pub body_carried : GuardedBody TypedNode → List Ty
  body_carried (guarded_body test body) = expression_carried test ++ expression_carried body

  pub bodies_carried : GuardedBodies TypedNode → List Ty
  bodies_carried no_bodies = []
  bodies_carried (more_bodies b bs) = body_carried b ++ bodies_carried bs

  pub binding_carried : LocalBinding TypedNode → List Ty
  binding_carried (local_signature a x type) = a.type ∷ a.arguments
  binding_carried (local_function a x clauses) = a.type ∷ a.arguments ++ clauses_carried clauses
  binding_carried (local_pattern a bound) = a.type ∷ a.arguments ++ clause_carried bound

  pub group_carried : LocalBindings TypedNode → List Ty
  group_carried no_bindings = []
  group_carried (more_bindings b bs) = binding_carried b ++ group_carried bs

  pub statement_carried : Statement TypedNode → List Ty
  statement_carried (bind_statement a p e) = a.type ∷ a.arguments ++ (pattern_carried p ++ expression_carried e)
  statement_carried (let_statement a group) = a.type ∷ a.arguments ++ group_carried group
  statement_carried (run_statement a e) = a.type ∷ a.arguments ++ expression_carried e

  pub statements_carried : Statements TypedNode → List Ty
  statements_carried no_statements = []
  statements_carried (more_statements s ss) = statement_carried s ++ statements_carried ss

abbrev pub all_clauses_carried : List (Alternative TypedNode) → List Ty
all_clauses_carried [] = []
all_clauses_carried (c ∷ cs) = clause_carried c ++ all_clauses_carried cs

abbrev pub declaration_carried : Declaration TypedNode → List Ty
declaration_carried (import_declaration a m) = a.type ∷ a.arguments
declaration_carried (data_declaration a x params constructors) = a.type ∷ a.arguments
declaration_carried (fixity_declaration a side strength names) = a.type ∷ a.arguments
declaration_carried (signature_declaration a names type) = a.type ∷ a.arguments
declaration_carried (function_declaration a x clauses) = a.type ∷ a.arguments ++ all_clauses_carried clauses
