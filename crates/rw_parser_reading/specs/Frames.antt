-- How many frames stand inside one another in a tree. A frame is what ends where its last part ends, with no closing token: an arrow and the type behind
-- it, a lambda and its body, a `let` and its body, an `if` and what follows its `else`. Patterns and operators have none.
use Rattle.std.specs.Prelude.{ℕ, suc, max, nat_le, List, [], ◌∷◌, Option, Some, None, if◌then◌else◌}
use Rattle.rw_base.specs.declared.place.Span.{Span}
use Rattle.rw_tree.specs.declared.types.Written.{Written}
use Rattle.rw_tree.specs.declared.expr.Expr.{Expr}
use Rattle.rw_tree.specs.declared.clause.Alt.{Alt}
use Rattle.rw_tree.specs.declared.clause.Rhs.{Rhs}
use Rattle.rw_tree.specs.declared.clause.Guard.{Guard}
use Rattle.rw_tree.specs.declared.clause.Local.{Local}
use Rattle.rw_tree.specs.declared.clause.Stmt.{Stmt}
use Rattle.rw_tree.specs.declared.decl.Constructor.{Constructor}
use Rattle.rw_tree.specs.declared.decl.Decl.{Decl}
use Rattle.rw_tree.specs.declared.decl.Decl.TheVariants.{Import, Data, Fixity, Sig, Fun}
use Rattle.rw_tree.specs.Types.{WrittenType, variable_type, constructor_type, applied_type, function_type, tuple_type, WrittenTypes, no_types, more_types, written}
use Rattle.rw_tree.specs.Trees.{Expression, variable, constructor, application, tuple, chain, lambda, let_in, if_then_else, case_of, do_block, Expressions, no_expressions, more_expressions}
use Rattle.rw_tree.specs.Trees.{Alternative, alternative, Alternatives, no_alternatives, more_alternatives, RightSide, plain_side, guarded_side, GuardedBody, guarded_body, GuardedBodies, no_bodies, more_bodies}
use Rattle.rw_tree.specs.Trees.{LocalBinding, local_signature, local_function, local_pattern, LocalBindings, no_bindings, more_bindings, Statement, bind_statement, let_statement, run_statement, Statements, no_statements, more_statements}
use Rattle.rw_tree.specs.Trees.{expression, alternative_of, right_side, guarded, local_binding, statement}
use Rattle.rw_parser_grammar.specs.declared.item.Bound.{Bound}
use Rattle.rw_parser_grammar.specs.declared.item.Bound.TheVariants as b
use Rattle.rw_parser_grammar.specs.declared.item.Item.{Item}
use Rattle.rw_parser_grammar.specs.declared.item.Item.TheVariants as i
use Rattle.rw_parser_reading.specs.Read.{Read}

-- ---- of plain trees
abbrev mutual
  pub type_frames : WrittenType → ℕ
  type_frames (variable_type name) = 0
  type_frames (constructor_type name) = 0
  type_frames (applied_type head parts) = max (type_frames head) (types_frames parts)
  type_frames (function_type from to) = max (type_frames from) (suc (type_frames to))
  type_frames (tuple_type parts) = types_frames parts

  pub types_frames : WrittenTypes → ℕ
  types_frames no_types = 0
  types_frames (more_types type types) = max (type_frames type) (types_frames types)

abbrev mutual
  pub expression_frames : {X : Type 0} → Expression X → ℕ
  expression_frames (variable x name) = 0
  expression_frames (constructor x name) = 0
  expression_frames (application x head parts) = max (expression_frames head) (expressions_frames parts)
  expression_frames (tuple x parts) = expressions_frames parts
  expression_frames (chain x operands operators) = expressions_frames operands
  expression_frames (lambda x pats body) = suc (expression_frames body)
  expression_frames (let_in x locals body) = max (bindings_frames locals) (suc (expression_frames body))
  expression_frames (if_then_else x test first second) = max (expression_frames test) (max (expression_frames first) (suc (expression_frames second)))
  expression_frames (case_of x scrutinee rows) = max (expression_frames scrutinee) (alternatives_frames rows)
  expression_frames (do_block x statements) = statements_frames statements

  pub expressions_frames : {X : Type 0} → Expressions X → ℕ
  expressions_frames no_expressions = 0
  expressions_frames (more_expressions a others) = max (expression_frames a) (expressions_frames others)

  pub alternative_frames : {X : Type 0} → Alternative X → ℕ
  alternative_frames (alternative x pats rhs locals) = max (side_frames rhs) (bindings_frames locals)

  pub alternatives_frames : {X : Type 0} → Alternatives X → ℕ
  alternatives_frames no_alternatives = 0
  alternatives_frames (more_alternatives row rows) = max (alternative_frames row) (alternatives_frames rows)

  pub side_frames : {X : Type 0} → RightSide X → ℕ
  side_frames (plain_side body) = expression_frames body
  side_frames (guarded_side bodies) = bodies_frames bodies

  pub body_frames : {X : Type 0} → GuardedBody X → ℕ
  body_frames (guarded_body test body) = max (expression_frames test) (expression_frames body)

  pub bodies_frames : {X : Type 0} → GuardedBodies X → ℕ
  bodies_frames no_bodies = 0
  bodies_frames (more_bodies body bodies) = max (body_frames body) (bodies_frames bodies)

  pub binding_frames : {X : Type 0} → LocalBinding X → ℕ
  binding_frames (local_signature x name type) = type_frames type
  binding_frames (local_function x name rows) = alternatives_frames rows
  binding_frames (local_pattern x row) = alternative_frames row

  pub bindings_frames : {X : Type 0} → LocalBindings X → ℕ
  bindings_frames no_bindings = 0
  bindings_frames (more_bindings binding bindings) = max (binding_frames binding) (bindings_frames bindings)

  pub statement_frames : {X : Type 0} → Statement X → ℕ
  statement_frames (bind_statement x pat body) = expression_frames body
  statement_frames (let_statement x locals) = bindings_frames locals
  statement_frames (run_statement x body) = expression_frames body

  pub statements_frames : {X : Type 0} → Statements X → ℕ
  statements_frames no_statements = 0
  statements_frames (more_statements statement statements) = max (statement_frames statement) (statements_frames statements)

-- ---- of what readers give

-- the most that one of a list has
abbrev pub most : {A : Type 0} → (A → ℕ) → List A → ℕ
most frames [] = 0
most frames (a ∷ others) = max (frames a) (most frames others)

unfoldable pub frames_of_type : Written → ℕ
frames_of_type a = type_frames (written a)

unfoldable pub frames_of_expression : Expr Span → ℕ
frames_of_expression a = expression_frames (expression (λ span. span) a)

unfoldable pub frames_of_row : Alt Span → ℕ
frames_of_row a = alternative_frames (alternative_of (λ span. span) a)

unfoldable pub frames_of_side : Rhs Span → ℕ
frames_of_side a = side_frames (right_side (λ span. span) a)

unfoldable pub frames_of_guard : Guard Span → ℕ
frames_of_guard a = body_frames (guarded (λ span. span) a)

unfoldable pub frames_of_local : Local Span → ℕ
frames_of_local a = binding_frames (local_binding (λ span. span) a)

unfoldable pub frames_of_statement : Stmt Span → ℕ
frames_of_statement a = statement_frames (statement (λ span. span) a)

-- of an entry of a block of local declarations
abbrev pub frames_of_bound : Bound → ℕ
frames_of_bound (b.Clause name row) = frames_of_row row
frames_of_bound (b.Whole a) = frames_of_local a

-- of a constructor of a data type
abbrev pub frames_of_constructor : Constructor → ℕ
frames_of_constructor made = most frames_of_type made.fields

-- of a declaration
abbrev pub frames_of_declaration : Decl Span → ℕ
frames_of_declaration (Import span name) = 0
frames_of_declaration (Data span made) = most frames_of_constructor made.constructors
frames_of_declaration (Fixity span side strength names) = 0
frames_of_declaration (Sig span names type) = frames_of_type type
frames_of_declaration (Fun span name rows) = most frames_of_row rows

-- of an item
abbrev pub frames_of_item : Item → ℕ
frames_of_item (i.Clause name row) = frames_of_row row
frames_of_item (i.Whole a) = frames_of_declaration a

-- ---- trees that are kept

-- the tree, if it has no more frames inside one another than there is room for
unfoldable pub kept : {A : Type 0} → (A → ℕ) → ℕ → A → Option A
kept frames room a = if nat_le (frames a) room then Some a else None

-- what was read, its tree kept if there is room for it
abbrev pub cut : {A : Type 0} → (A → ℕ) → ℕ → Read A → Read (Option A)
cut frames room None = None
cut frames room (Some p) = Some (kept frames room p.0, p.1)
