-- How many levels a tree has: each node is one level below its parent. Nodes are declarations, clauses and alternatives, local declarations,
-- statements, expressions, patterns and types; the k-th statement of a `do` stands k levels below the whole.
use Rattle.std.specs.Prelude.{ℕ, suc, max, List, [], ◌∷◌}
use Rattle.rw_tree.specs.Types.{WrittenType, variable_type, constructor_type, applied_type, function_type, tuple_type, WrittenTypes, no_types, more_types}
use Rattle.rw_tree.specs.Patterns.{Pattern, wildcard, variable_pattern, constructor_pattern, tuple_pattern, Patterns, no_patterns, more_patterns}
use Rattle.rw_tree.specs.Trees.{Expression, variable, constructor, application, tuple, chain, lambda, let_in, if_then_else, case_of, do_block, Expressions, no_expressions, more_expressions}
use Rattle.rw_tree.specs.Trees.{Alternative, alternative, Alternatives, no_alternatives, more_alternatives, RightSide, plain_side, guarded_side, GuardedBody, guarded_body, GuardedBodies, no_bodies, more_bodies}
use Rattle.rw_tree.specs.Trees.{LocalBinding, local_signature, local_function, local_pattern, LocalBindings, no_bindings, more_bindings, Statement, bind_statement, let_statement, run_statement, Statements, no_statements, more_statements}
use Rattle.rw_tree.specs.Declarations.{PlainConstructor, Declaration, import_declaration, data_declaration, fixity_declaration, signature_declaration, function_declaration}

-- at most so many
abbrev pub max_levels : ℕ
max_levels = 512

abbrev mutual
  pub type_levels : WrittenType → ℕ
  type_levels (variable_type name) = 1
  type_levels (constructor_type name) = 1
  type_levels (applied_type head parts) = suc (max (type_levels head) (types_levels parts))
  type_levels (function_type from to) = suc (max (type_levels from) (type_levels to))
  type_levels (tuple_type parts) = suc (types_levels parts)

  pub types_levels : WrittenTypes → ℕ
  types_levels no_types = 0
  types_levels (more_types type types) = max (type_levels type) (types_levels types)

abbrev mutual
  pub pattern_levels : {X : Type 0} → Pattern X → ℕ
  pattern_levels (wildcard x) = 1
  pattern_levels (variable_pattern x name) = 1
  pattern_levels (constructor_pattern x name parts) = suc (patterns_levels parts)
  pattern_levels (tuple_pattern x parts) = suc (patterns_levels parts)

  pub patterns_levels : {X : Type 0} → Patterns X → ℕ
  patterns_levels no_patterns = 0
  patterns_levels (more_patterns pat pats) = max (pattern_levels pat) (patterns_levels pats)

-- of all the patterns of a clause
abbrev pub row_patterns_levels : {X : Type 0} → List (Pattern X) → ℕ
row_patterns_levels [] = 0
row_patterns_levels (pat ∷ pats) = max (pattern_levels pat) (row_patterns_levels pats)

abbrev mutual
  pub expression_levels : {X : Type 0} → Expression X → ℕ
  expression_levels (variable x name) = 1
  expression_levels (constructor x name) = 1
  expression_levels (application x head parts) = suc (max (expression_levels head) (expressions_levels parts))
  expression_levels (tuple x parts) = suc (expressions_levels parts)
  expression_levels (chain x operands operators) = suc (max (expressions_levels operands) (expressions_levels operators))
  expression_levels (lambda x pats body) = suc (max (row_patterns_levels pats) (expression_levels body))
  expression_levels (let_in x locals body) = suc (max (bindings_levels locals) (expression_levels body))
  expression_levels (if_then_else x test first second) = suc (max (expression_levels test) (max (expression_levels first) (expression_levels second)))
  expression_levels (case_of x scrutinee rows) = suc (max (expression_levels scrutinee) (alternatives_levels rows))
  expression_levels (do_block x statements) = statements_levels statements

  pub expressions_levels : {X : Type 0} → Expressions X → ℕ
  expressions_levels no_expressions = 0
  expressions_levels (more_expressions a others) = max (expression_levels a) (expressions_levels others)

  pub alternative_levels : {X : Type 0} → Alternative X → ℕ
  alternative_levels (alternative x pats rhs locals) = suc (max (row_patterns_levels pats) (max (side_levels rhs) (bindings_levels locals)))

  pub alternatives_levels : {X : Type 0} → Alternatives X → ℕ
  alternatives_levels no_alternatives = 0
  alternatives_levels (more_alternatives row rows) = max (alternative_levels row) (alternatives_levels rows)

  -- a right side and a guard are no nodes
  pub side_levels : {X : Type 0} → RightSide X → ℕ
  side_levels (plain_side body) = expression_levels body
  side_levels (guarded_side bodies) = bodies_levels bodies

  pub body_levels : {X : Type 0} → GuardedBody X → ℕ
  body_levels (guarded_body test body) = max (expression_levels test) (expression_levels body)

  pub bodies_levels : {X : Type 0} → GuardedBodies X → ℕ
  bodies_levels no_bodies = 0
  bodies_levels (more_bodies body bodies) = max (body_levels body) (bodies_levels bodies)

  pub binding_levels : {X : Type 0} → LocalBinding X → ℕ
  binding_levels (local_signature x name type) = suc (type_levels type)
  binding_levels (local_function x name rows) = suc (alternatives_levels rows)
  binding_levels (local_pattern x row) = suc (alternative_levels row)

  pub bindings_levels : {X : Type 0} → LocalBindings X → ℕ
  bindings_levels no_bindings = 0
  bindings_levels (more_bindings binding bindings) = max (binding_levels binding) (bindings_levels bindings)

  pub statement_levels : {X : Type 0} → Statement X → ℕ
  statement_levels (bind_statement x pat body) = suc (max (pattern_levels pat) (expression_levels body))
  statement_levels (let_statement x locals) = suc (bindings_levels locals)
  statement_levels (run_statement x body) = suc (expression_levels body)

  -- of a `do`: the whole, and each statement one level below what stands before it
  pub statements_levels : {X : Type 0} → Statements X → ℕ
  statements_levels no_statements = 1
  statements_levels (more_statements statement statements) = suc (max (statement_levels statement) (statements_levels statements))

-- of types, of constructors' fields
abbrev pub fields_levels : List WrittenType → ℕ
fields_levels [] = 0
fields_levels (type ∷ types) = max (type_levels type) (fields_levels types)

abbrev pub constructors_levels : List PlainConstructor → ℕ
constructors_levels [] = 0
constructors_levels (made ∷ others) = max (fields_levels made.field_types) (constructors_levels others)

-- of the clauses of a function
abbrev pub rows_levels : {X : Type 0} → List (Alternative X) → ℕ
rows_levels [] = 0
rows_levels (row ∷ rows) = max (alternative_levels row) (rows_levels rows)

-- of a declaration
abbrev pub declaration_levels : {X : Type 0} → Declaration X → ℕ
declaration_levels (import_declaration x name) = 1
declaration_levels (data_declaration x name params constructors) = suc (constructors_levels constructors)
declaration_levels (fixity_declaration x side strength names) = 1
declaration_levels (signature_declaration x names type) = suc (type_levels type)
declaration_levels (function_declaration x name rows) = suc (rows_levels rows)
