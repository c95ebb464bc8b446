-- One step of evaluation keeps its results where what is evaluated on the way keeps its own.
use Rattle.std.proofs.Common.{ℕ, zero, suc, ◌-◌, nat_eq, nat_le, List, [], ◌∷◌, length, Option, Some, None, refl}
use Rattle.rw_scope_rules.specs.declared.binding.Binding.{Binding}
use Rattle.rw_scope_rules.specs.declared.binding.Binding.TheVariants.{Declared, Operation as Operates, Constructor as Constructs, Local}
use Rattle.rw_scope_rules.specs.declared.binding.Bound.{Bound}
use Rattle.rw_scope_rules.specs.Bindings.{binding_variables}
use Rattle.rw_tree.specs.Patterns.{Pattern, wildcard, variable_pattern, constructor_pattern, tuple_pattern, Patterns, no_patterns, more_patterns}
use Rattle.rw_tree.specs.Trees.{Expression, variable, constructor, application, tuple, chain, lambda, let_in, if_then_else, case_of, do_block}
use Rattle.rw_tree.specs.Trees.{Alternative, alternative, Alternatives, no_alternatives, more_alternatives, alternative_parts, RightSide, plain_side, guarded_side, guarded_body, GuardedBodies, no_bodies, more_bodies}
use Rattle.rw_tree.specs.Trees.{local_signature, local_function, local_pattern, LocalBindings, no_bindings, more_bindings, bind_statement, let_statement, run_statement, Statements, no_statements, more_statements}
use Rattle.rw_tree.specs.Declarations.{Declaration, import_declaration, data_declaration, fixity_declaration, signature_declaration, function_declaration}
use Rattle.rw_meaning.specs.Results.{Outcome, datum, waiting_for_more, action, Function, of_clauses, of_lambda, of_constructor, of_operation}
use Rattle.rw_meaning.specs.Results.{Thunk, kept, kept_side, kept_name, kept_call, known, Thunks, nothing, and_then, joined, how_many, thunk_at, first_thunks}
use Rattle.rw_meaning.specs.Evaluation.{Task, evaluate, force, apply, inside_names, patterns_before, arity, declaration_at, fields_if, fields_of, match, match_parts, match_row, guards, side, row, rows, clauses_there, declared_there, named, bound_there, statements, evaluated, name_in, forced, entered, applied, step, result_within}
use Rattle.rw_core.specs.Options.{Grows}
use Rattle.rw_core.proofs.Options.{grows_same, grows_on}
use Rattle.rw_meaning.proofs.Grows.{Keeps, keeps_same, keeps_on, keeps_or, keeps_tried, grows_taken, grows_if, keeps_truth, grows_truth}

module _ (program : List (Declaration Bound)) (low high : Task → Option Outcome) (grows : (task : Task) → Grows (low task) (high task)) where
  mutual
    match_keeps : (p : Pattern Bound) (t : Thunk) → Keeps (match program low p t) (match program high p t)
    match_keeps (wildcard a) t = refl
    match_keeps (variable_pattern a x) t = refl
    match_keeps (constructor_pattern a c parts) t =
        keeps_on _ _ _ _ (keeps_tried _ _ (grows (force t))) (λ r. keeps_on _ _ _ _ (keeps_same (fields_if a.bound r)) (λ fields. match_parts_keeps parts fields))
    match_keeps (tuple_pattern a parts) t =
        keeps_on _ _ _ _ (keeps_tried _ _ (grows (force t))) (λ r. keeps_on _ _ _ _ (keeps_same (fields_of r)) (λ fields. match_parts_keeps parts fields))

    match_parts_keeps : (parts : Patterns Bound) (ts : Thunks) → Keeps (match_parts program low parts ts) (match_parts program high parts ts)
    match_parts_keeps no_patterns nothing = refl
    match_parts_keeps no_patterns (and_then t ts) = tt
    match_parts_keeps (more_patterns p ps) nothing = tt
    match_parts_keeps (more_patterns p ps) (and_then t ts) =
        keeps_on _ _ _ _ (match_keeps p t) (λ xs. keeps_on _ _ _ _ (match_parts_keeps ps ts) (λ ys. refl))

  match_row_keeps : (ps : List (Pattern Bound)) (ts : Thunks) → Keeps (match_row program low ps ts) (match_row program high ps ts)
  match_row_keeps [] nothing = refl
  match_row_keeps [] (and_then t ts) = tt
  match_row_keeps (p ∷ ps) nothing = tt
  match_row_keeps (p ∷ ps) (and_then t ts) = keeps_on _ _ _ _ (match_keeps p t) (λ xs. keeps_on _ _ _ _ (match_row_keeps ps ts) (λ ys. refl))

  guards_keep : (env : Thunks) (bodies : GuardedBodies Bound) → Keeps (guards program low env bodies) (guards program high env bodies)
  guards_keep env no_bodies = refl
  guards_keep env (more_bodies (guarded_body test body) bodies) =
      keeps_on _ _ _ _ (keeps_tried _ _ (grows (evaluate env test))) (λ r. keeps_truth r _ _ _ _ (keeps_tried _ _ (grows (evaluate env body))) (guards_keep env bodies))

  side_keeps : (env : Thunks) (body : RightSide Bound) → Keeps (side program low env body) (side program high env body)
  side_keeps env (plain_side body) = keeps_tried _ _ (grows (evaluate env body))
  side_keeps env (guarded_side bodies) = guards_keep env bodies

  row_keeps : (env : Thunks) (clause : Alternative Bound) (ts : Thunks) → Keeps (row program low env clause ts) (row program high env clause ts)
  row_keeps env (alternative a pats body wheres) ts = keeps_on _ _ _ _ (match_row_keeps pats ts) (λ xs. side_keeps (inside_names (joined env xs) wheres) body)

  rows_keep : (env : Thunks) (clauses : Alternatives Bound) (ts : Thunks) → Keeps (rows program low env clauses ts) (rows program high env clauses ts)
  rows_keep env no_alternatives ts = refl
  rows_keep env (more_alternatives first others) ts = keeps_or _ _ _ _ (row_keeps env first ts) (rows_keep env others ts)

  clauses_grow : (env : Thunks) (clauses : Alternatives Bound) → Grows (clauses_there program low env clauses) (clauses_there program high env clauses)
  clauses_grow env clauses = grows_if (nat_eq (patterns_before clauses) 0) _ _ _ _ (grows_taken _ _ (rows_keep env clauses nothing)) refl

  declared_grows : (d : Declaration Bound) → Grows (declared_there program low d) (declared_there program high d)
  declared_grows (import_declaration a m) = tt
  declared_grows (data_declaration a x params constructors) = tt
  declared_grows (fixity_declaration a s n names) = tt
  declared_grows (signature_declaration a names type) = tt
  declared_grows (function_declaration a x clauses) = clauses_grow nothing (alternative_parts clauses)

  named_grows : (env : Thunks) (b : Binding) → Grows (named program low env b) (named program high env b)
  named_grows env (Local k) = grows_on _ _ _ _ (grows_same (thunk_at k env)) (λ t. grows (force t))
  named_grows env (Declared n) = grows_on _ _ _ _ (grows_same (declaration_at n program)) declared_grows
  named_grows env (Constructs n place) = grows_same _
  named_grows env (Operates o) = refl

  bound_grows : (env : Thunks) (b : Option Binding) → Grows (bound_there program low env b) (bound_there program high env b)
  bound_grows env None = tt
  bound_grows env (Some b) = named_grows env b

  statements_grow : (a : Bound) (env : Thunks) (ss : Statements Bound) → Grows (statements program low a env ss) (statements program high a env ss)
  statements_grow a env no_statements = tt
  statements_grow a env (more_statements (run_statement b e) no_statements) = grows (evaluate env e)
  statements_grow a env (more_statements (run_statement b e) (more_statements s ss)) = refl
  statements_grow a env (more_statements (bind_statement b p e) ss) = refl
  statements_grow a env (more_statements (let_statement b group) ss) = grows (evaluate (inside_names env group) (do_block a ss))

  evaluated_grows : (env : Thunks) (e : Expression Bound) → Grows (evaluated program low env e) (evaluated program high env e)
  evaluated_grows env (variable a x) = bound_grows env a.bound
  evaluated_grows env (constructor a c) = bound_grows env a.bound
  evaluated_grows env (application a head parts) = grows_on _ _ _ _ (grows (evaluate env head)) (λ f. grows (apply f _))
  evaluated_grows env (tuple a parts) = refl
  evaluated_grows env (chain a operands operators) = tt
  evaluated_grows env (lambda a pats body) = refl
  evaluated_grows env (let_in a group body) = grows (evaluate (inside_names env group) body)
  evaluated_grows env (if_then_else a test first second) =
      grows_on _ _ _ _ (grows (evaluate env test)) (λ r. grows_truth r _ _ _ _ (grows (evaluate env first)) (grows (evaluate env second)))
  evaluated_grows env (case_of a scrutinee alternatives) = grows_taken _ _ (rows_keep env alternatives (and_then (kept env scrutinee) nothing))
  evaluated_grows env (do_block a body) = statements_grow a env body

  name_grows : (env : Thunks) (group : LocalBindings Bound) (k : ℕ) → Grows (name_in program low env group k) (name_in program high env group k)
  name_grows env no_bindings k = tt
  name_grows env (more_bindings (local_signature a x type) others) k = name_grows env others k
  name_grows env (more_bindings (local_function a x clauses) others) zero = clauses_grow env clauses
  name_grows env (more_bindings (local_function a x clauses) others) (suc k) = name_grows env others k
  name_grows env (more_bindings (local_pattern a (alternative b pats body wheres)) others) k =
      grows_if (nat_le (suc k) (length (binding_variables (local_pattern a (alternative b pats body wheres))))) _ _ _ _
      (grows_on _ _ _ _ (grows_taken _ _ (match_row_keeps pats (and_then (kept_side env body wheres) nothing))) (λ xs. grows_on _ _ _ _ (grows_same (thunk_at k xs)) (λ t. grows (force t))))
      (name_grows env others (k - length (binding_variables (local_pattern a (alternative b pats body wheres)))))

  forced_grows : (t : Thunk) → Grows (forced program low t) (forced program high t)
  forced_grows (kept env e) = grows (evaluate env e)
  forced_grows (kept_side env body wheres) = grows_taken _ _ (side_keeps (inside_names env wheres) body)
  forced_grows (kept_name env group k) = name_grows (inside_names env group) group k
  forced_grows (kept_call f ts) = grows_on _ _ _ _ (grows (force f)) (λ r. grows (apply r ts))
  forced_grows (known r) = refl

  entered_grows : (f : Function) (ts : Thunks) → Grows (entered program low f ts) (entered program high f ts)
  entered_grows (of_clauses env clauses) ts = grows_taken _ _ (rows_keep env clauses ts)
  entered_grows (of_lambda env pats body) ts = grows_on _ _ _ _ (grows_taken _ _ (match_row_keeps pats ts)) (λ xs. grows (evaluate (joined env xs) body))
  entered_grows (of_constructor place fields) ts = refl
  entered_grows (of_operation o) ts = refl

  applied_grows : (r : Outcome) (ts : Thunks) → Grows (applied program low r ts) (applied program high r ts)
  applied_grows r nothing = refl
  applied_grows (waiting_for_more f before) (and_then t ts) =
      grows_if (nat_le (suc (how_many (joined before (and_then t ts)))) (arity f)) _ _ _ _ refl
      (grows_on _ _ _ _ (entered_grows f (first_thunks (arity f) (joined before (and_then t ts)))) (λ r. grows (apply r _)))
  applied_grows (datum place fields) (and_then t ts) = tt
  applied_grows (action o before) (and_then t ts) = tt

  pub step_grows : (task : Task) → Grows (step program low task) (step program high task)
  step_grows (evaluate env e) = evaluated_grows env e
  step_grows (force t) = forced_grows t
  step_grows (apply r ts) = applied_grows r ts

-- a budget of one more keeps each result
pub result_grows : (program : List (Declaration Bound)) (budget : ℕ) (task : Task) → Grows (result_within program budget task) (result_within program (suc budget) task)
unfolding result_within
result_grows program zero task = tt
result_grows program (suc budget) task = step_grows program (result_within program budget) (result_within program (suc budget)) (result_grows program budget) task
