-- What each name of a program is bound to (Haskell 2010 Report, sections 3.2, 3.3, 3.12 to 3.14, 3.17, 4.4.3 and 5.5).
use Rattle.std.specs.Prelude.{ℕ, suc, List, [], ◌∷◌, ◌++◌, map, flat_map, length, Option, Some, None, codes, if◌then◌else◌}
use Rattle.rw_base.specs.declared.place.Span.{Span}
use Rattle.rw_scope_rules.specs.declared.binding.Operation.{Operation}
use Rattle.rw_scope_rules.specs.declared.binding.Operation.TheVariants.{Return, Bind, Then, Get, Put, Lift, Signal, Extrude, Par, Refold}
use Rattle.rw_scope_rules.specs.declared.binding.Binding.{Binding}
use Rattle.rw_scope_rules.specs.declared.binding.Binding.TheVariants.{Declared, Operation as Operates, Constructor as Constructs, Local}
use Rattle.rw_scope_rules.specs.declared.binding.Bound.{Bound}
use Rattle.rw_tree.specs.Patterns.{Pattern, wildcard, variable_pattern, constructor_pattern, tuple_pattern, Patterns, no_patterns, more_patterns}
use Rattle.rw_tree.specs.Trees.{Expression, variable, constructor, application, tuple, chain, lambda, let_in, if_then_else, case_of, do_block, Expressions, no_expressions, more_expressions}
use Rattle.rw_tree.specs.Trees.{Alternative, alternative, Alternatives, no_alternatives, more_alternatives, RightSide, plain_side, guarded_side, GuardedBody, guarded_body, GuardedBodies, no_bodies, more_bodies}
use Rattle.rw_tree.specs.Trees.{LocalBinding, local_signature, local_function, local_pattern, LocalBindings, no_bindings, more_bindings, Statement, bind_statement, let_statement, run_statement, Statements, no_statements, more_statements}
use Rattle.rw_tree.specs.Declarations.{PlainConstructor, Declaration, import_declaration, data_declaration, fixity_declaration, signature_declaration, function_declaration, PlainProgram}
use Rattle.rw_scope_rules.specs.Names.{Bytes, is_among, first_named}

-- == Top level ==

-- the operations on devices and on their monads
abbrev pub operations : List (Bytes × Operation)
operations =
    (codes "return", Return) ∷ (codes ">>=", Bind) ∷ (codes ">>", Then) ∷ (codes "get", Get) ∷ (codes "put", Put) ∷ (codes "lift", Lift)
    ∷ (codes "signal", Signal) ∷ (codes "extrude", Extrude) ∷ (codes "par", Par) ∷ (codes "refold", Refold) ∷ []

-- the variable that a declaration with this number declares
abbrev pub declared_variables : {X : Type 0} → ℕ → Declaration X → List (Bytes × Binding)
declared_variables n (function_declaration a x clauses) = (x, Declared n) ∷ []
declared_variables n _ = []

-- the constructors of a declaration with this number, from the one with this place on
abbrev pub placed_constructors : ℕ → ℕ → List PlainConstructor → List (Bytes × Binding)
placed_constructors n place [] = []
placed_constructors n place (c ∷ cs) = (c.constructor_name, Constructs n place) ∷ placed_constructors n (suc place) cs

-- the constructors that it declares
abbrev pub declared_constructors : {X : Type 0} → ℕ → Declaration X → List (Bytes × Binding)
declared_constructors n (data_declaration a x params constructors) = placed_constructors n 0 constructors
declared_constructors n _ = []

-- what each of these declarations, which are numbered from n on, declares
abbrev pub declared_by : {X : Type 0} → (ℕ → Declaration X → List (Bytes × Binding)) → ℕ → List (Declaration X) → List (Bytes × Binding)
declared_by declared n [] = []
declared_by declared n (d ∷ ds) = declared n d ++ declared_by declared (suc n) ds

-- what names at top level are bound to
pub record Tops : Type 0 where
  pub variables : List (Bytes × Binding)
  pub constructors : List (Bytes × Binding)

-- the tops of a program: the operations, and what its declarations declare
abbrev pub tops_of : {X : Type 0} → List (Declaration X) → Tops
tops_of decls = record {
  variables = map (λ o. (o.0, Operates o.1)) operations ++ declared_by declared_variables 0 decls;
  constructors = declared_by declared_constructors 0 decls;
}

-- == Local names ==

-- the variables of a pattern, from left to right
abbrev mutual
  pub pattern_variables : {X : Type 0} → Pattern X → List (Bytes × X)
  pattern_variables (wildcard a) = []
  pattern_variables (variable_pattern a x) = (x, a) ∷ []
  pattern_variables (constructor_pattern a c parts) = parts_variables parts
  pattern_variables (tuple_pattern a parts) = parts_variables parts

  pub parts_variables : {X : Type 0} → Patterns X → List (Bytes × X)
  parts_variables no_patterns = []
  parts_variables (more_patterns p ps) = pattern_variables p ++ parts_variables ps

-- those of the patterns of one clause
abbrev pub row_variables : {X : Type 0} → List (Pattern X) → List (Bytes × X)
row_variables pats = flat_map pattern_variables pats

-- the names that a local binding binds: a signature binds none
abbrev pub binding_variables : {X : Type 0} → LocalBinding X → List (Bytes × X)
binding_variables (local_signature a x type) = []
binding_variables (local_function a x clauses) = (x, a) ∷ []
binding_variables (local_pattern a (alternative b pats side wheres)) = row_variables pats

-- those of a let group, in source order
abbrev pub group_variables : {X : Type 0} → LocalBindings X → List (Bytes × X)
group_variables no_bindings = []
group_variables (more_bindings b bs) = binding_variables b ++ group_variables bs

abbrev pub names_of : {X : Type 0} → List (Bytes × X) → List Bytes
names_of vs = map (λ v. v.0) vs

abbrev pub group_names : {X : Type 0} → LocalBindings X → List Bytes
group_names group = names_of (group_variables group)

-- a scope: the names bound on the way to a place, the latest first
abbrev pub Scope : Type 0
Scope = List Bytes

-- the scope after these names are bound in order
abbrev pub entered : List Bytes → Scope → Scope
entered [] scope = scope
entered (x ∷ xs) scope = entered xs (x ∷ scope)

-- the number of the latest binder of a name: how many were bound before it
abbrev pub local_number : Bytes → Scope → Option Binding
local_number x [] = None
local_number x (y ∷ scope) = if is_among x (y ∷ []) then Some (Local (length scope)) else local_number x scope

abbrev pub inside : {X : Type 0} → Pattern X → Scope → Scope
inside p scope = entered (names_of (pattern_variables p)) scope

abbrev pub inside_row : {X : Type 0} → List (Pattern X) → Scope → Scope
inside_row pats scope = entered (names_of (row_variables pats)) scope

abbrev pub inside_group : {X : Type 0} → LocalBindings X → Scope → Scope
inside_group group scope = entered (group_names group) scope

-- the scope of the statements after this one
abbrev pub inside_statement : {X : Type 0} → Statement X → Scope → Scope
inside_statement (bind_statement a p e) scope = inside p scope
inside_statement (let_statement a group) scope = inside_group group scope
inside_statement (run_statement a e) scope = scope

-- == The bound tree ==

-- a local name hides one at top level
abbrev pub local_or : Option Binding → Option Binding → Option Binding
local_or (Some k) top = Some k
local_or None top = top

-- the annotation of a node that names nothing
abbrev pub unnamed : Span → Bound
unnamed a = record { span = a; bound = None }

-- that of a node that names or binds something
abbrev pub bound_to : Span → Option Binding → Bound
bound_to a binding = record { span = a; bound = binding }

module _ (tops : Tops) where
  -- a variable or an operator
  abbrev pub bound_variable : Scope → Span → Bytes → Bound
  bound_variable scope a x = bound_to a (local_or (local_number x scope) (first_named x tops.variables))

  abbrev pub bound_constructor : Span → Bytes → Bound
  bound_constructor a c = bound_to a (first_named c tops.constructors)

  -- a local signature is bound to the name of its group that it is for, if there is one
  abbrev pub bound_signature : List Bytes → Scope → Span → Bytes → Bound
  bound_signature names scope a x = bound_to a (if is_among x names then local_number x scope else None)

  -- a pattern whose variables are bound after those of the scope
  abbrev mutual
    pub bound_pattern : Scope → Pattern Span → Pattern Bound
    bound_pattern scope (wildcard a) = wildcard (unnamed a)
    bound_pattern scope (variable_pattern a x) = variable_pattern (bound_to a (Some (Local (length scope)))) x
    bound_pattern scope (constructor_pattern a c parts) = constructor_pattern (bound_constructor a c) c (bound_parts scope parts)
    bound_pattern scope (tuple_pattern a parts) = tuple_pattern (unnamed a) (bound_parts scope parts)

    pub bound_parts : Scope → Patterns Span → Patterns Bound
    bound_parts scope no_patterns = no_patterns
    bound_parts scope (more_patterns p ps) = more_patterns (bound_pattern scope p) (bound_parts (inside p scope) ps)

  abbrev pub bound_row : Scope → List (Pattern Span) → List (Pattern Bound)
  bound_row scope [] = []
  bound_row scope (p ∷ ps) = bound_pattern scope p ∷ bound_row (inside p scope) ps

  abbrev mutual
    pub bound_expression : Scope → Expression Span → Expression Bound
    bound_expression scope (variable a x) = variable (bound_variable scope a x) x
    bound_expression scope (constructor a c) = constructor (bound_constructor a c) c
    bound_expression scope (application a head parts) = application (unnamed a) (bound_expression scope head) (bound_expressions scope parts)
    bound_expression scope (tuple a parts) = tuple (unnamed a) (bound_expressions scope parts)
    bound_expression scope (chain a operands operators) = chain (unnamed a) (bound_expressions scope operands) (bound_expressions scope operators)
    bound_expression scope (lambda a pats body) = lambda (unnamed a) (bound_row scope pats) (bound_expression (inside_row pats scope) body)
    bound_expression scope (let_in a group body) =
        let_in (unnamed a) (bound_group (group_names group) (inside_group group scope) scope group) (bound_expression (inside_group group scope) body)
    bound_expression scope (if_then_else a test first second) =
        if_then_else (unnamed a) (bound_expression scope test) (bound_expression scope first) (bound_expression scope second)
    bound_expression scope (case_of a scrutinee rows) = case_of (unnamed a) (bound_expression scope scrutinee) (bound_clauses scope rows)
    bound_expression scope (do_block a statements) = do_block (unnamed a) (bound_statements scope statements)

    pub bound_expressions : Scope → Expressions Span → Expressions Bound
    bound_expressions scope no_expressions = no_expressions
    bound_expressions scope (more_expressions e es) = more_expressions (bound_expression scope e) (bound_expressions scope es)

    -- what is bound after `where` is seen in the right side, guards included, and hides the patterns' variables
    pub bound_clause : Scope → Alternative Span → Alternative Bound
    bound_clause scope (alternative a pats side wheres) =
        alternative (unnamed a) (bound_row scope pats)
        (bound_side (inside_group wheres (inside_row pats scope)) side)
        (bound_group (group_names wheres) (inside_group wheres (inside_row pats scope)) (inside_row pats scope) wheres)

    pub bound_clauses : Scope → Alternatives Span → Alternatives Bound
    bound_clauses scope no_alternatives = no_alternatives
    bound_clauses scope (more_alternatives c cs) = more_alternatives (bound_clause scope c) (bound_clauses scope cs)

    pub bound_side : Scope → RightSide Span → RightSide Bound
    bound_side scope (plain_side body) = plain_side (bound_expression scope body)
    bound_side scope (guarded_side bodies) = guarded_side (bound_bodies scope bodies)

    pub bound_body : Scope → GuardedBody Span → GuardedBody Bound
    bound_body scope (guarded_body test body) = guarded_body (bound_expression scope test) (bound_expression scope body)

    pub bound_bodies : Scope → GuardedBodies Span → GuardedBodies Bound
    bound_bodies scope no_bodies = no_bodies
    bound_bodies scope (more_bodies b bs) = more_bodies (bound_body scope b) (bound_bodies scope bs)

    -- a binding of a group with these names: what it binds is bound after `before`, and its right sides are in `scope`, which has all of the group
    pub bound_binding : List Bytes → Scope → Scope → LocalBinding Span → LocalBinding Bound
    bound_binding names scope before (local_signature a x type) = local_signature (bound_signature names scope a x) x type
    bound_binding names scope before (local_function a x clauses) =
        local_function (bound_to a (Some (Local (length before)))) x (bound_clauses scope clauses)
    bound_binding names scope before (local_pattern a (alternative b pats side wheres)) =
        local_pattern (unnamed a) (alternative (unnamed b) (bound_row before pats)
        (bound_side (inside_group wheres scope) side)
        (bound_group (group_names wheres) (inside_group wheres scope) scope wheres))

    pub bound_group : List Bytes → Scope → Scope → LocalBindings Span → LocalBindings Bound
    bound_group names scope before no_bindings = no_bindings
    bound_group names scope before (more_bindings b bs) =
        more_bindings (bound_binding names scope before b) (bound_group names scope (entered (names_of (binding_variables b)) before) bs)

    pub bound_statement : Scope → Statement Span → Statement Bound
    bound_statement scope (bind_statement a p e) = bind_statement (unnamed a) (bound_pattern scope p) (bound_expression scope e)
    bound_statement scope (let_statement a group) = let_statement (unnamed a) (bound_group (group_names group) (inside_group group scope) scope group)
    bound_statement scope (run_statement a e) = run_statement (unnamed a) (bound_expression scope e)

    pub bound_statements : Scope → Statements Span → Statements Bound
    bound_statements scope no_statements = no_statements
    bound_statements scope (more_statements s ss) = more_statements (bound_statement scope s) (bound_statements (inside_statement s scope) ss)

  -- the declaration with this number
  abbrev pub bound_declaration : ℕ → Declaration Span → Declaration Bound
  bound_declaration n (import_declaration a m) = import_declaration (unnamed a) m
  bound_declaration n (data_declaration a x params constructors) = data_declaration (unnamed a) x params constructors
  bound_declaration n (fixity_declaration a side strength names) = fixity_declaration (unnamed a) side strength names
  bound_declaration n (signature_declaration a names type) = signature_declaration (unnamed a) names type
  bound_declaration n (function_declaration a x clauses) = function_declaration (bound_to a (Some (Declared n))) x (map (bound_clause []) clauses)

  -- these declarations, numbered from n on
  abbrev pub bound_declarations : ℕ → List (Declaration Span) → List (Declaration Bound)
  bound_declarations n [] = []
  bound_declarations n (d ∷ ds) = bound_declaration n d ∷ bound_declarations (suc n) ds

-- a program with each of its names bound, or with `None` where there is nothing that it could be bound to
abbrev pub bound_program : PlainProgram Span → PlainProgram Bound
bound_program program = record { declarations = bound_declarations (tops_of program.declarations) 0 program.declarations }
