-- Evaluation by need (Haskell 2010 Report, sections 3.2 to 3.17 and 4.4.3), over the tree in which each name is bound. Nothing here looks at types.
--
-- Evaluation has a budget, and what it evaluates on the way has one less. Where the budget ends, where no row is taken, or where a thing has a wrong
-- shape, there is no result.
use Rattle.std.specs.Prelude.{ℕ, zero, suc, ◌-◌, nat_eq, nat_le, List, [], ◌∷◌, length, Option, Some, None, if◌then◌else◌}
use Rattle.rw_scope_rules.specs.declared.binding.Operation.{Operation}
use Rattle.rw_scope_rules.specs.declared.binding.Operation.TheVariants.{Bind, Then}
use Rattle.rw_scope_rules.specs.declared.binding.Binding.{Binding}
use Rattle.rw_scope_rules.specs.declared.binding.Binding.TheVariants.{Declared, Operation as Operates, Constructor as Constructs, Local}
use Rattle.rw_scope_rules.specs.declared.binding.Bound.{Bound}
use Rattle.rw_scope_rules.specs.Bindings.{binding_variables, group_variables}
use Rattle.rw_tree.specs.Patterns.{Pattern, wildcard, variable_pattern, constructor_pattern, tuple_pattern, Patterns, no_patterns, more_patterns}
use Rattle.rw_tree.specs.Trees.{Expression, variable, constructor, application, tuple, chain, lambda, let_in, if_then_else, case_of, do_block, Expressions, no_expressions, more_expressions}
use Rattle.rw_tree.specs.Trees.{Alternative, alternative, Alternatives, no_alternatives, more_alternatives, alternative_parts, RightSide, plain_side, guarded_side, guarded_body, GuardedBodies, no_bodies, more_bodies}
use Rattle.rw_tree.specs.Trees.{local_signature, local_function, local_pattern, LocalBindings, no_bindings, more_bindings, bind_statement, let_statement, run_statement, Statements, no_statements, more_statements}
use Rattle.rw_tree.specs.Declarations.{PlainConstructor, Declaration, data_declaration, function_declaration}
use Rattle.rw_core.specs.Options.{◌>>=◌}
use Rattle.rw_meaning.specs.Options.{Tried, stuck, passed_over, taken, and_try, or_try, tried, what_is_taken}
use Rattle.rw_meaning.specs.Results.{Outcome, datum, waiting_for_more, action, Function, of_clauses, of_lambda, of_constructor, of_operation}
use Rattle.rw_meaning.specs.Results.{Thunk, kept, kept_side, kept_name, kept_call, known, Thunks, nothing, and_then, joined, how_many, thunk_at, first_thunks, later_thunks, arguments_of}

-- == What is evaluated ==

-- an expression in an environment, something that was kept, or the application of a result to arguments
pub data Task : Type 0 where
  evaluate : Thunks → Expression Bound → Task
  force : Thunk → Task
  apply : Outcome → Thunks → Task

-- parts of an expression are kept
abbrev pub kept_parts : Thunks → Expressions Bound → Thunks
kept_parts env no_expressions = nothing
kept_parts env (more_expressions e es) = and_then (kept env e) (kept_parts env es)

-- the names of a let group from this number on, so many of them
abbrev pub kept_names : Thunks → LocalBindings Bound → ℕ → ℕ → Thunks
kept_names env group k zero = nothing
kept_names env group k (suc n) = and_then (kept_name env group k) (kept_names env group (suc k) n)

-- the environment inside a let group: each name of the group is kept
abbrev pub inside_names : Thunks → LocalBindings Bound → Thunks
inside_names env group = joined env (kept_names env group 0 (length (group_variables group)))

-- how many patterns the clauses of a function have
abbrev pub patterns_before : Alternatives Bound → ℕ
patterns_before no_alternatives = 0
patterns_before (more_alternatives (alternative a pats side wheres) rows) = length pats

-- the arguments that a function waits for
abbrev pub arity : Function → ℕ
arity (of_clauses env rows) = patterns_before rows
arity (of_lambda env pats body) = length pats
arity (of_constructor place fields) = fields
arity (of_operation o) = arguments_of o

-- a result as a truth value: `False` and `True` are the constructors with places 0 and 1
abbrev pub if_true : {A : Type 0} → Outcome → A → A → A → A
if_true (datum zero fields) first second wrong = second
if_true (datum (suc zero) fields) first second wrong = first
if_true _ first second wrong = wrong

-- the declaration with this number
abbrev pub declaration_at : ℕ → List (Declaration Bound) → Option (Declaration Bound)
declaration_at n [] = None
declaration_at zero (d ∷ ds) = Some d
declaration_at (suc n) (d ∷ ds) = declaration_at n ds

-- the number of fields of the constructor with this place
abbrev pub fields_at : ℕ → List PlainConstructor → Option ℕ
fields_at place [] = None
fields_at zero (c ∷ cs) = Some (length c.field_types)
fields_at (suc place) (c ∷ cs) = fields_at place cs

abbrev pub constructors_in : Declaration Bound → List PlainConstructor
constructors_in (data_declaration a x params constructors) = constructors
constructors_in _ = []

-- a function without arguments to wait for isn't one: a constructor without fields is a datum, `get` an action
abbrev pub constructed : ℕ → ℕ → Outcome
constructed place zero = datum place nothing
constructed place (suc fields) = waiting_for_more (of_constructor place (suc fields)) nothing

abbrev pub operation_alone : Operation → Outcome
operation_alone o = if nat_eq (arguments_of o) 0 then action o nothing else waiting_for_more (of_operation o) nothing

-- the fields of a datum; it is passed over where its constructor isn't this one
abbrev pub fields_if : Option Binding → Outcome → Tried Thunks
fields_if (Some (Constructs d place)) (datum tag fields) = if nat_eq tag place then taken fields else passed_over
fields_if _ _ = stuck

-- the fields of a tuple, which has place 0
abbrev pub fields_of : Outcome → Tried Thunks
fields_of (datum zero fields) = taken fields
fields_of (datum (suc tag) fields) = passed_over
fields_of _ = stuck

-- == One step: what a task gives, over what the tasks on its way give ==

module _ (program : List (Declaration Bound)) (result_of : Task → Option Outcome) where
  -- match a pattern against what is kept: what its variables stand for, from left to right. A variable and `_` match without evaluating
  abbrev mutual
    pub match : Pattern Bound → Thunk → Tried Thunks
    match (wildcard a) t = taken nothing
    match (variable_pattern a x) t = taken (and_then t nothing)
    match (constructor_pattern a c parts) t = and_try (tried (result_of (force t))) (λ r. and_try (fields_if a.bound r) (λ fields. match_parts parts fields))
    match (tuple_pattern a parts) t = and_try (tried (result_of (force t))) (λ r. and_try (fields_of r) (λ fields. match_parts parts fields))

    pub match_parts : Patterns Bound → Thunks → Tried Thunks
    match_parts no_patterns nothing = taken nothing
    match_parts (more_patterns p ps) (and_then t ts) = and_try (match p t) (λ xs. and_try (match_parts ps ts) (λ ys. taken (joined xs ys)))
    match_parts _ _ = stuck

  -- the patterns of a row against arguments, from left to right
  abbrev pub match_row : List (Pattern Bound) → Thunks → Tried Thunks
  match_row [] nothing = taken nothing
  match_row (p ∷ ps) (and_then t ts) = and_try (match p t) (λ xs. and_try (match_row ps ts) (λ ys. taken (joined xs ys)))
  match_row _ _ = stuck

  -- the first body whose guard is `True`; where all fail, the row is passed over
  abbrev pub guards : Thunks → GuardedBodies Bound → Tried Outcome
  guards env no_bodies = passed_over
  guards env (more_bodies (guarded_body test body) bodies) =
      and_try (tried (result_of (evaluate env test))) (λ r. if_true r (tried (result_of (evaluate env body))) (guards env bodies) stuck)

  abbrev pub side : Thunks → RightSide Bound → Tried Outcome
  side env (plain_side body) = tried (result_of (evaluate env body))
  side env (guarded_side bodies) = guards env bodies

  -- a row: its patterns, then its right side inside what is bound after its `where`
  abbrev pub row : Thunks → Alternative Bound → Thunks → Tried Outcome
  row env (alternative a pats body wheres) arguments = and_try (match_row pats arguments) (λ xs. side (inside_names (joined env xs) wheres) body)

  -- the first row that is taken
  abbrev pub rows : Thunks → Alternatives Bound → Thunks → Tried Outcome
  rows env no_alternatives arguments = passed_over
  rows env (more_alternatives first others) arguments = or_try (row env first arguments) (rows env others arguments)

  -- clauses where they stand: without patterns they are evaluated
  abbrev pub clauses_there : Thunks → Alternatives Bound → Option Outcome
  clauses_there env clauses =
      if nat_eq (patterns_before clauses) 0 then what_is_taken (rows env clauses nothing) else Some (waiting_for_more (of_clauses env clauses) nothing)

  -- what a name is bound to
  abbrev pub declared_there : Declaration Bound → Option Outcome
  declared_there (function_declaration a x clauses) = clauses_there nothing (alternative_parts clauses)
  declared_there _ = None

  abbrev pub named : Thunks → Binding → Option Outcome
  named env (Local k) = do t ← thunk_at k env; result_of (force t)
  named env (Declared n) = do d ← declaration_at n program; declared_there d
  named env (Constructs n place) = do d ← declaration_at n program; fields ← fields_at place (constructors_in d); Some (constructed place fields)
  named env (Operates o) = Some (operation_alone o)

  abbrev pub bound_there : Thunks → Option Binding → Option Outcome
  bound_there env None = None
  bound_there env (Some b) = named env b

  -- the statements of a `do`, as `>>=` and `>>`
  abbrev pub statements : Bound → Thunks → Statements Bound → Option Outcome
  statements a env no_statements = None
  statements a env (more_statements (run_statement b e) no_statements) = result_of (evaluate env e)
  statements a env (more_statements (run_statement b e) (more_statements s ss)) = Some (action Then (and_then (kept env e) (and_then (kept env (do_block a (more_statements s ss))) nothing)))
  statements a env (more_statements (bind_statement b p e) ss) =
      Some (action Bind (and_then (kept env e) (and_then (known (waiting_for_more (of_lambda env (p ∷ []) (do_block a ss)) nothing)) nothing)))
  statements a env (more_statements (let_statement b group) ss) = result_of (evaluate (inside_names env group) (do_block a ss))

  abbrev pub evaluated : Thunks → Expression Bound → Option Outcome
  evaluated env (variable a x) = bound_there env a.bound
  evaluated env (constructor a c) = bound_there env a.bound
  evaluated env (application a head parts) = do f ← result_of (evaluate env head); result_of (apply f (kept_parts env parts))
  evaluated env (tuple a parts) = Some (datum 0 (kept_parts env parts))
  evaluated env (chain a operands operators) = None
  evaluated env (lambda a pats body) = Some (waiting_for_more (of_lambda env pats body) nothing)
  evaluated env (let_in a group body) = result_of (evaluate (inside_names env group) body)
  evaluated env (if_then_else a test first second) = do r ← result_of (evaluate env test); if_true r (result_of (evaluate env first)) (result_of (evaluate env second)) None
  evaluated env (case_of a scrutinee alternatives) = what_is_taken (rows env alternatives (and_then (kept env scrutinee) nothing))
  evaluated env (do_block a body) = statements a env body

  -- the name with this number in a let group, of which these bindings are left; the environment has all names of the group
  abbrev pub name_in : Thunks → LocalBindings Bound → ℕ → Option Outcome
  name_in env no_bindings k = None
  name_in env (more_bindings (local_signature a x type) others) k = name_in env others k
  name_in env (more_bindings (local_function a x clauses) others) zero = clauses_there env clauses
  name_in env (more_bindings (local_function a x clauses) others) (suc k) = name_in env others k
  name_in env (more_bindings (local_pattern a (alternative b pats body wheres)) others) k =
      if nat_le (suc k) (length (binding_variables (local_pattern a (alternative b pats body wheres))))
      then (do xs ← what_is_taken (match_row pats (and_then (kept_side env body wheres) nothing)); t ← thunk_at k xs; result_of (force t))
      else name_in env others (k - length (binding_variables (local_pattern a (alternative b pats body wheres))))

  abbrev pub forced : Thunk → Option Outcome
  forced (kept env e) = result_of (evaluate env e)
  forced (kept_side env body wheres) = what_is_taken (side (inside_names env wheres) body)
  forced (kept_name env group k) = name_in (inside_names env group) group k
  forced (kept_call f arguments) = do r ← result_of (force f); result_of (apply r arguments)
  forced (known r) = Some r

  -- a function with all its arguments
  abbrev pub entered : Function → Thunks → Option Outcome
  entered (of_clauses env clauses) arguments = what_is_taken (rows env clauses arguments)
  entered (of_lambda env pats body) arguments = do xs ← what_is_taken (match_row pats arguments); result_of (evaluate (joined env xs) body)
  entered (of_constructor place fields) arguments = Some (datum place arguments)
  entered (of_operation o) arguments = Some (action o arguments)

  -- a function waits while it has too few arguments; what is too many goes to its result
  abbrev pub applied : Outcome → Thunks → Option Outcome
  applied r nothing = Some r
  applied (waiting_for_more f before) (and_then t ts) =
      if nat_le (suc (how_many (joined before (and_then t ts)))) (arity f) then Some (waiting_for_more f (joined before (and_then t ts)))
      else (do r ← entered f (first_thunks (arity f) (joined before (and_then t ts))); result_of (apply r (later_thunks (arity f) (joined before (and_then t ts)))))
  applied _ (and_then t ts) = None

  -- what a task gives
  abbrev pub step : Task → Option Outcome
  step (evaluate env e) = evaluated env e
  step (force t) = forced t
  step (apply r arguments) = applied r arguments

-- == With a budget ==

-- what a task gives within a budget
unfoldable pub result_within : List (Declaration Bound) → ℕ → Task → Option Outcome
result_within program zero task = None
result_within program (suc budget) task = step program (result_within program budget) task
