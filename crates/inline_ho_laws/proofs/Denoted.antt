-- What a flat term gives, its source reaches.
use Rattle.std.proofs.Common.{◌≡◌, ℕ, zero, suc, ◌+◌, ◌≤◌, nat_eq, false, List, [], ◌∷◌, ◌++◌, length, Option, Some, None, refl, arith, ap, sym, ◌∙◌, subst, append_assoc, append-nil, length-append}
use Rattle.std.proofs.lemmas.Bool.Decides.{nat_tests}
use Rattle.rw_scope_rules.specs.declared.binding.Operation.TheVariants.{Return, Bind, Then, Put, Lift, Signal, Extrude}
use Rattle.rw_scope_rules.specs.declared.binding.Binding.TheVariants.{Declared, Local}
use Rattle.rw_scope_rules.specs.declared.binding.Bound.{Bound}
use Rattle.rw_scope_rules.specs.Bindings.{group_variables}
use Rattle.rw_tree.specs.Patterns.{Pattern, variable_pattern}
use Rattle.rw_tree.specs.Trees.{Expression, variable, if_then_else, do_block, more_statements}
use Rattle.rw_tree.specs.Trees.{alternative, Alternatives, RightSide, plain_side, GuardedBodies, LocalBindings}
use Rattle.rw_tree.specs.Declarations.{Declaration}
use Rattle.rw_core.specs.Values.{Val, Vals, val, none, more, vals}
use Rattle.rw_core.specs.Options.{◌>>=◌}
use Rattle.rw_meaning.specs.Options.{Tried, passed_over, taken, and_try, or_try, tried, what_is_taken}
use Rattle.rw_meaning.specs.Results.{Outcome, action, kept_call, Thunk, kept, kept_name, kept_side, Thunks, nothing, and_then, joined, how_many, first_thunks, later_thunks}
use Rattle.rw_meaning.specs.Evaluation.{evaluate, force, result_within, kept_parts, kept_names, inside_names, patterns_before, match_row}
use Rattle.rw_core_flat.specs.Terms.{FlatPattern, bound_pattern, no_patterns as no_flat_patterns}
use Rattle.rw_core_flat.specs.Terms.{FlatTerm, local_term, built_term, case_term, let_term, call_term, FlatTerms, no_terms, more_terms}
use Rattle.rw_core_flat.specs.Terms.{FlatLets, no_lets, more_lets, FlatRows, no_rows, more_rows, FlatArms, body_arm, no_arms, more_arms}
use Rattle.rw_core_flat.specs.Meaning.{Mode, valued, acting, tracing, Answer, a_value, as_value, got, value_at, matched, row_matched, meaning, values, bound, rows_meaning, arms_meaning}
use Rattle.inline_ho_rules.specs.Meants.{Meant, flat, suspended, local_use, Meants, no_meants, more_meants, meant_at, joined_meants, suspended_parts, flats}
use Rattle.inline_ho_rules.specs.Meants.{IsPattern, Columns, no_columns, value_column, other_column, AreMatched, none_matched, flat_matched, other_matched, AreVariables, none_variable, more_variable}
use Rattle.inline_ho_rules.specs.Flattening.{side_term}
use Rattle.inline_ho_rules.specs.Flattening.{IsFlat, is_local, is_argument, is_used, is_called, is_inlined, is_constructor, is_application, is_tuple_of, is_lambda, is_let, is_case, is_if, is_last, is_run, is_bound, is_let_then, if_rows, is_return, is_signal, is_put, is_get, is_lift, is_bind, is_then, is_extrude}
use Rattle.inline_ho_rules.specs.Flattening.{IsDatum, suspended_datum, flat_datum, AreData, no_data, more_data, IsLambda, lambda_body, lambda_named, lambda_matched, IsInlined, is_group, AreParams, no_params, data_param, function_param}
use Rattle.inline_ho_rules.specs.Flattening.{IsBody, plain_body, rows_body, AreRows, none_rows, some_rows, AreArms, one_arm, guarded_arms, AreGuarded, none_guarded, some_guarded, IsPlaced, all_placed, data_placed, use_placed, pattern_placed}
use Rattle.rw_core.proofs.Eventually.{always, if_on, if_map}
use Rattle.std.specs.Option.{IfSome}
use Rattle.rw_meaning.specs.Options.{Whichever}
use Rattle.rw_meaning.proofs.Tried.{whichever_map, whichever_on, whichever_tried, whichever_or, if_taken}
use Rattle.rw_meaning.specs.Steps.{Gives, Stands, AllStand}
use Rattle.inline_ho_laws.proofs.Stands.{ShowsValue, ReachesAnswer, MeantBy, AllMeant, meant_more, all_more, all_joined, looked_up, length_one, flats_meant}
use Rattle.inline_ho_laws.proofs.Matching.{Takes as PatternTakes, Passes as PatternPasses, matching, matching_row, pattern_is_matched, ColumnsMeant, RowTakes, row_is_matched}
use Rattle.inline_ho_laws.proofs.Devices.{reaches_operation, reaches_get, return_case, signal_case, put_case, get_case, lift_case, extrude_case, bind_case, call_reaches}
use Rattle.inline_ho_laws.proofs.Heads.{local_given, forced_given, Declares, ClausesGive, RowsGive, declared_given, clauses_declare, reach_on, value_shown, value_stands, local_reached, constructor_reached, parts_meant, application_reached, tuple_reached, meant_many}
use Rattle.inline_ho_laws.proofs.Heads.{clauses_reached, LambdaReaches, lambda_reached, case_given, let_given, kept_given, name_given, name_like, rows_there, placed_first, unplaced_meant, side_given, all_placed_meant, pattern_names_meant}
use Rattle.inline_ho_laws.proofs.Heads.{Passes, Taken, the_rows, the_side, the_guards, only_row, then_given, else_given, last_given, let_then_given, action_reached, run_given, bind_given, rest_of, rest_reached, lambda_ends, lambda_steps, row_passes, row_takes, row_not_matched, reach_taken, rows_reached, rows_given, plain_taken, guard_reached}
use Rattle.rw_meaning.specs.Systems.{binding_of}

tried_alone : {A B : Type 0} (x : Option A) (f : A → Option B) → (x >>= f) ≡ what_is_taken (or_try (and_try (tried x) (λ a. tried (f a))) passed_over)
tried_alone None f = refl
tried_alone (Some a) f = taken_alone (f a)
  where
    taken_alone : {B : Type 0} (y : Option B) → y ≡ what_is_taken (or_try (tried y) passed_over)
    taken_alone None = refl
    taken_alone (Some b) = refl

module _ (program : List (Declaration Bound)) (IsFunction : ℕ → ℕ → Type 0) (calls : Mode → ℕ → List Val → Option Answer) where
  -- what is reached from an expression
  abbrev pub Reached : Thunks → Expression Bound → Thunks → Mode → Answer → Type 0
  Reached ρ e ts mode = ReachesAnswer program (Gives program (evaluate ρ e)) ts mode

  -- calls give what their declarations reach
  abbrev pub CallsAreRight : Type 0
  CallsAreRight = (i n : ℕ) → IsFunction i n → (mode : Mode) (vs : List Val) (ts : Thunks) → AllStand program ts vs → IfSome (calls mode i vs) (ReachesAnswer program (Declares program n) ts mode)

  -- an environment that has grown
  pub record Grown (env : List Val) (d : ℕ) (ms : Meants Bound) (ts : Thunks) (inner : List Val) : Type 0 where
    pub others : List Val
    pub grown : env ++ others ≡ inner
    pub long : length inner ≡ d
    pub meant : AllMeant program inner ms ts

  -- that of parameters
  pub record Taking (env : List Val) (n : ℕ) (ts : Thunks) (d : ℕ) (params rest : Meants Bound) (inner : List Val) : Type 0 where
    pub others : List Val
    pub grown : env ++ others ≡ inner
    pub long : length inner ≡ d
    pub params_meant : AllMeant program inner params (first_thunks n ts)
    pub rest_meant : AllMeant program inner rest (later_thunks n ts)
    pub enough : n ≤ how_many ts

  pub kept_meant : (env others inner : List Val) (ms : Meants Bound) (ts : Thunks) → env ++ others ≡ inner → AllMeant program env ms ts → AllMeant program inner ms ts
  kept_meant env others inner ms ts e h = subst (λ z. AllMeant program z ms ts) e (all_more program env others ms ts h)

  grown_none : (env : List Val) (d : ℕ) (ms : Meants Bound) (ts : Thunks) → length env ≡ d → AllMeant program env ms ts → Grown env d ms ts env
  grown_none env d ms ts e h = record { others = []; grown = append-nil env; long = e; meant = h }

  grown_more : (env : List Val) (v : Val) (d : ℕ) (ms : Meants Bound) (ts : Thunks) (inner : List Val) → Grown (env ++ v ∷ []) d ms ts inner → Grown env d ms ts inner
  grown_more env v d ms ts inner g = record { others = v ∷ g.others; grown = let e : (env ++ v ∷ []) ++ g.others ≡ inner = g.grown in rw append_assoc at e; long = g.long; meant = g.meant }

  last_meant : (env : List Val) (v : Val) (d : ℕ) (t : Thunk) → length env ≡ d → Stands program t v → MeantBy program (env ++ v ∷ []) (flat d) t
  last_meant env v d t e h = (v, subst (λ z. value_at z (env ++ v ∷ []) ≡ Some v) e (last_value env v), h)
    where
      last_value : (env : List Val) (v : Val) → value_at (length env) (env ++ v ∷ []) ≡ Some v
      last_value [] v = refl
      last_value (w ∷ env) v = last_value env v

  -- == One case each ==

  local_case : (E : Meants Bound) (a : Bound) (x : List ℕ) (k y : ℕ) → a.bound ≡ Some (Local k) → meant_at k E ≡ Some (flat y) → (env : List Val) (ρ ts : Thunks) (mode : Mode)
      → AllMeant program env E ρ → AllMeant program env no_meants ts → IfSome (meaning calls (local_term y) mode env) (Reached ρ (variable a x) ts mode)
  local_case E a x k y e g env ρ (and_then t ts) mode h i = absurd i
  local_case E a x k y e g env ρ nothing (acting states) h i = tt
  local_case E a x k y e g env ρ nothing (tracing states inputs) h i = tt
  local_case E a x k y e g env ρ nothing valued h i =
      let l = looked_up program env k E ρ (flat y) h g in
      let m : MeantBy program env (flat y) l.0 = l.2 in
      local_reached program env y (Gives program (evaluate ρ (variable a x))) l.0 (value_at y env) valued (λ f. local_given program ρ a x k l.0 f e l.1) m.0 m.1 m.2

  -- a name that is kept as something
  named_case : (E : Meants Bound) (a : Bound) (x : List ℕ) (k : ℕ) (m : Meant Bound) → a.bound ≡ Some (Local k) → meant_at k E ≡ Some m → (env : List Val) (ρ ts : Thunks) (mode : Mode) (answer : Option Answer)
      → AllMeant program env E ρ → ((t : Thunk) → MeantBy program env m t → IfSome answer (ReachesAnswer program (Gives program (force t)) ts mode)) → IfSome answer (Reached ρ (variable a x) ts mode)
  named_case E a x k m e g env ρ ts mode answer h i =
      let l = looked_up program env k E ρ m h g in
      reach_on program (Gives program (force l.0)) _ ts mode answer (λ f. local_given program ρ a x k l.0 f e l.1) (i l.0 l.2)

  called_case : CallsAreRight → (a : Bound) (x : List ℕ) (n i : ℕ) (us : FlatTerms) → a.bound ≡ Some (Declared n) → IsFunction i n → (env : List Val) (ρ ts : Thunks) (mode : Mode)
      → IfSome (values calls us env) (AllStand program ts) → IfSome (meaning calls (call_term i us) mode env) (Reached ρ (variable a x) ts mode)
  called_case right a x n i us e g env ρ ts mode h =
      if_on _ _ (values calls us env) _ h (λ vs s. reach_on program (Declares program n) _ ts mode (calls mode i vs) (λ f. declared_given program ρ a x n f e) (right i n g mode vs ts s))

  built_case : (H : Outcome → Type 0) (type place : ℕ) (us : FlatTerms) (env : List Val) (ts us' : Thunks) (mode : Mode) → IfSome (values calls us env) (AllStand program us')
      → ((vs : List Val) → AllStand program us' vs → ReachesAnswer program H ts valued (a_value (val place (vals vs)))) → IfSome (meaning calls (built_term type place us) mode env) (ReachesAnswer program H ts mode)
  built_case H type place us env ts us' (acting states) h k = tt
  built_case H type place us env ts us' (tracing states inputs) h k = tt
  built_case H type place us env ts us' valued h k = if_on _ _ (values calls us env) _ h k

  data_case : (t : FlatTerm) (us : FlatTerms) (env : List Val) (th : Thunk) (ts : Thunks) → IfSome (meaning calls t valued env >>= as_value) (Stands program th) → IfSome (values calls us env) (AllStand program ts)
      → IfSome (values calls (more_terms t us) env) (AllStand program (and_then th ts))
  data_case t us env th ts h k = if_on _ _ (meaning calls t valued env >>= as_value) _ h (λ v s. if_on _ _ (values calls us env) _ k (λ vs ss. (s, ss)))

  -- a flat variable as a value
  flat_value : (y : ℕ) (env : List Val) (t : Thunk) → MeantBy program env (flat y) t → IfSome (meaning calls (local_term y) valued env >>= as_value) (Stands program t)
  flat_value y env t m = rw m.1 m.2

  -- what a suspended argument gives as a value
  suspended_value : (E : Meants Bound) (e : Expression Bound) (u : FlatTerm) (env : List Val) (t : Thunk) (ρ : Thunks) → ((n : ℕ) → result_within program (suc n) (force t) ≡ result_within program n (evaluate ρ e))
      → IfSome (meaning calls u valued env) (Reached ρ e nothing valued) → IfSome (meaning calls u valued env >>= as_value) (Stands program t)
  suspended_value E e u env t ρ like h = value_stands program _ t (meaning calls u valued env) (λ f g. forced_given program t (λ n. result_within program n (evaluate ρ e)) f like g) h

  -- bind one more variable
  bound_case : (u : FlatTerm) (lets : FlatLets) (env : List Val) (t : Thunk) (P : List Val → Type 0) → IfSome (meaning calls u valued env >>= as_value) (Stands program t)
      → ((v : Val) → Stands program t v → IfSome (bound calls lets (env ++ v ∷ [])) P) → IfSome (bound calls (more_lets bound_pattern u lets) env) P
  bound_case u lets env t P h k = if_on _ _ (meaning calls u valued env >>= as_value) _ h k

  group_case : (ρ : Thunks) (cs : Alternatives Bound) (ts : Thunks) (lets : FlatLets) (t : FlatTerm) (d : ℕ) (params rest : Meants Bound) (env : List Val) (mode : Mode)
      → IfSome (bound calls lets env) (Taking env (patterns_before cs) ts d params rest)
      → ((inner : List Val) → Taking env (patterns_before cs) ts d params rest inner
      → IfSome (meaning calls t mode inner) (ReachesAnswer program (RowsGive program ρ cs (first_thunks (patterns_before cs) ts)) (later_thunks (patterns_before cs) ts) mode))
      → IfSome (meaning calls (let_term lets t) mode env) (ReachesAnswer program (ClausesGive program ρ cs) ts mode)
  group_case ρ cs ts lets t d params rest env mode h k = if_on _ _ (bound calls lets env) _ h (λ inner g. clauses_reached program ρ cs ts mode (meaning calls t mode inner) g.enough (k inner g))

  -- variables match
  variables_match : (env : List Val) (pats : List (Pattern Bound)) (params : Meants Bound) (ps : Thunks) → AreVariables pats params → AllMeant program env params ps
      → (n : ℕ) → match_row program (result_within program n) pats ps ≡ taken ps
  variables_match env pats params nothing none_variable h n = refl
  variables_match env pats params (and_then p ps) none_variable h n = absurd h
  variables_match env pats params nothing (more_variable vs) h n = absurd h
  variables_match env (q ∷ qs) (more_meants m ms) (and_then p ps) (more_variable vs) h n = rw (variables_match env qs ms ps vs h.1 n)

  columns_meant : (env : List Val) (params : Meants Bound) (cols : Columns Bound) (us : FlatTerms) (ps : Thunks) → AreMatched params cols us → AllMeant program env params ps → IfSome (values calls us env) (ColumnsMeant program env cols ps)
  columns_meant env params cols us nothing none_matched h = tt
  columns_meant env params cols us (and_then p ps) none_matched h = absurd h
  columns_meant env params cols us nothing (flat_matched m) h = absurd h
  columns_meant env (more_meants (flat y) ms) (value_column cols) (more_terms u us) (and_then p ps) (flat_matched m) h =
      if_on _ _ (meaning calls (local_term y) valued env >>= as_value) _ (flat_value y env p h.0) (λ v s. if_on _ _ (values calls us env) _ (columns_meant env ms cols us ps m h.1) (λ vs c. (s, c)))
  columns_meant env params cols us nothing (other_matched m) h = absurd h
  columns_meant env (more_meants n ms) (other_column o cols) us (and_then p ps) (other_matched m) h =
      if_map _ _ (values calls us env) (λ vs c. (h.0, c)) (columns_meant env ms cols us ps m h.1)

  -- what is pattern_is_matched, and the environment after it
  pub record Opens (env : List Val) (n : ℕ) (p : Pattern Bound) (t : Thunk) (inner : List Val) : Type 0 where
    pub others : List Val
    pub grown : env ++ others ≡ inner
    pub takes : PatternTakes program n (matching program p t) others

  opened : (q : FlatPattern) (u : FlatTerm) (n : ℕ) (p : Pattern Bound) (env : List Val) (t : Thunk) → IsPattern binding_of p q n → IfSome (meaning calls u valued env >>= as_value) (Stands program t)
      → IfSome (bound calls (more_lets q u no_lets) env) (Opens env n p t)
  opened q u n p env t i h = if_on _ _ (meaning calls u valued env >>= as_value) _ h
      (λ v s. if_on (PatternTakes program n (matching program p t)) _ (what_is_taken (matched q v)) _ (if_taken _ _ (matched q v) (pattern_is_matched program i t v s)) (λ ws w. record { others = ws; grown = refl; takes = w }))

  opens_long : (env : List Val) (d n : ℕ) (p : Pattern Bound) (t : Thunk) (inner : List Val) → length env ≡ d → Opens env n p t inner → length inner ≡ n + d
  opens_long env d n p t inner l o =
      let a : length (env ++ o.others) ≡ length env + length o.others = length-append env o.others in
      let b : length o.others ≡ n = o.takes.many in
      let c : length (env ++ o.others) ≡ n + d = omega arith in subst (λ z. length z ≡ n + d) o.grown c

  opens_meant : (env : List Val) (d n : ℕ) (p : Pattern Bound) (t : Thunk) (inner : List Val) (E : Meants Bound) (ρ : Thunks) → length env ≡ d → (o : Opens env n p t inner) → AllMeant program env E ρ
      → AllMeant program inner (joined_meants E (flats d n)) (joined ρ o.takes.them)
  opens_meant env d n p t inner E ρ l o h =
      all_joined program inner E (flats d n) ρ o.takes.them (kept_meant env o.others inner E ρ o.grown h)
      (subst (λ z. AllMeant program z (flats d n) o.takes.them) o.grown (flats_meant program env o.others o.takes.them d n l o.takes.many o.takes.stand))

  lambda_case : (q : FlatPattern) (u : FlatTerm) (n : ℕ) (p : Pattern Bound) (ps : List (Pattern Bound)) (body : Expression Bound) (t : FlatTerm) (env : List Val) (ρ : Thunks) (th : Thunk) (ts : Thunks) (mode : Mode) → IsPattern binding_of p q n
      → IfSome (meaning calls u valued env >>= as_value) (Stands program th)
      → ((inner : List Val) (o : Opens env n p th inner) → IfSome (meaning calls t mode inner) (LambdaReaches program (joined ρ o.takes.them) ps body ts mode))
      → IfSome (meaning calls (let_term (more_lets q u no_lets) t) mode env) (LambdaReaches program ρ (p ∷ ps) body (and_then th ts) mode)
  lambda_case q u n p ps body t env ρ th ts mode i h k = if_on _ _ (bound calls (more_lets q u no_lets) env) _ (opened q u n p env th i h)
      (λ inner o. lambda_steps program ρ o.takes.them p ps body th ts mode (meaning calls t mode inner) o.takes.had (k inner o))

  -- one more parameter
  taking_data : (env : List Val) (v : Val) (n d d' : ℕ) (t : Thunk) (ts : Thunks) (params rest : Meants Bound) (inner : List Val) → length env ≡ d → Stands program t v → Taking (env ++ v ∷ []) n ts d' params rest inner
      → Taking env (suc n) (and_then t ts) d' (more_meants (flat d) params) rest inner
  taking_data env v n d d' t ts params rest inner l s w = record {
    others = v ∷ w.others;
    grown = let e : (env ++ v ∷ []) ++ w.others ≡ inner = w.grown in rw append_assoc at e;
    long = w.long;
    params_meant = (subst (λ z. MeantBy program z (flat d) t) w.grown (meant_more program (env ++ v ∷ []) w.others (flat d) t (last_meant env v d t l s)), w.params_meant);
    rest_meant = w.rest_meant;
    enough = let e = w.enough in omega arith;
  }

  taking_function : (env : List Val) (n d' : ℕ) (m : Meant Bound) (t : Thunk) (ts : Thunks) (params rest : Meants Bound) (inner : List Val) → MeantBy program env m t → Taking env n ts d' params rest inner
      → Taking env (suc n) (and_then t ts) d' (more_meants m params) rest inner
  taking_function env n d' m t ts params rest inner h w = record {
    others = w.others;
    grown = w.grown;
    long = w.long;
    params_meant = (subst (λ z. MeantBy program z m t) w.grown (meant_more program env w.others m t h), w.params_meant);
    rest_meant = w.rest_meant;
    enough = let e = w.enough in omega arith;
  }

  -- a suspended argument, forced
  forced_case : (E : Meants Bound) (e : Expression Bound) (env : List Val) (th ts : Thunk) (ρ args : Thunks) (mode : Mode) (x : Option Answer) → ((n : ℕ) → result_within program (suc n) (force th) ≡ result_within program n (evaluate ρ e))
      → IfSome x (Reached ρ e args mode) → IfSome x (ReachesAnswer program (Gives program (force th)) args mode)
  forced_case E e env th ts ρ args mode x like h = reach_on program _ (Gives program (force th)) args mode x (λ f g. forced_given program th (λ n. result_within program n (evaluate ρ e)) f like g) h

  -- a row that is taken at once
  first_taken : (Q : Answer → Type 0) (x : Option Answer) (y : Tried Answer) → IfSome x Q → IfSome (what_is_taken (or_try (tried x) y)) Q
  first_taken Q None y h = tt
  first_taken Q (Some a) y h = h

  not_one : (n : ℕ) → nat_eq (suc (suc n)) 1 ≡ false
  not_one n = grind (arith, nat_tests)

  not_zero : (n : ℕ) → nat_eq (suc (suc n)) 0 ≡ false
  not_zero n = grind (arith, nat_tests)

  if_case : (Q : Answer → Type 0) (t u : FlatTerm) (mode : Mode) (env : List Val) (tag : ℕ) (fields : Vals) → (tag ≡ 1 → IfSome (meaning calls t mode (env ++ [])) Q) → (tag ≡ 0 → IfSome (meaning calls u mode (env ++ [])) Q)
      → IfSome (what_is_taken (rows_meaning calls (if_rows t u) mode env (val tag fields ∷ []))) Q
  if_case Q t u mode env zero none h k = first_taken Q (meaning calls u mode (env ++ [])) passed_over (k refl)
  if_case Q t u mode env zero (more v vs) h k = tt
  if_case Q t u mode env (suc zero) none h k = first_taken Q (meaning calls t mode (env ++ [])) _ (h refl)
  if_case Q t u mode env (suc zero) (more v vs) h k = tt
  if_case Q t u mode env (suc (suc n)) fields h k = rw (not_one n, not_zero n) tt

  if_law : (ρ : Thunks) (a : Bound) (b e e' : Expression Bound) (s t u : FlatTerm) (env : List Val) (ts : Thunks) (mode : Mode) → IfSome (meaning calls s valued env) (Reached ρ b nothing valued)
      → IfSome (meaning calls t mode (env ++ [])) (Reached ρ e ts mode) → IfSome (meaning calls u mode (env ++ [])) (Reached ρ e' ts mode)
      → IfSome (meaning calls (case_term (more_terms s no_terms) (if_rows t u)) mode env) (Reached ρ (if_then_else a b e e') ts mode)
  if_law ρ a b e e' s t u env ts mode h k i =
      if_on (λ vs. (tag : ℕ) × (fields : Vals) × (vs ≡ val tag fields ∷ []) × (r : Outcome) × Gives program (evaluate ρ b) r × ShowsValue program r (val tag fields)) _ (values calls (more_terms s no_terms) env) _
      (if_on _ _ (meaning calls s valued env >>= as_value) _ (value_shown program _ (meaning calls s valued env) h) (λ v w. parts v w))
      (λ vs w. subst (λ z. IfSome (what_is_taken (rows_meaning calls (if_rows t u) mode env z)) (Reached ρ (if_then_else a b e e') ts mode)) (sym w.2)
      (if_case (Reached ρ (if_then_else a b e e') ts mode) t u mode env w.0 w.1
      (λ z. reach_on program _ _ ts mode (meaning calls t mode (env ++ [])) (λ f g. then_given program ρ a b e e' w.3 w.0 w.1 f z w.4 w.5 g) k)
      (λ z. reach_on program _ _ ts mode (meaning calls u mode (env ++ [])) (λ f g. else_given program ρ a b e e' w.3 w.0 w.1 f z w.4 w.5 g) i)))
    where
      parts : (v : Val) → (r : Outcome) × Gives program (evaluate ρ b) r × ShowsValue program r v
          → (tag : ℕ) × (fields : Vals) × (v ∷ [] ≡ val tag fields ∷ []) × (r : Outcome) × Gives program (evaluate ρ b) r × ShowsValue program r (val tag fields)
      parts (val tag fields) w = (tag, fields, refl, w.0, w.1, w.2)

  -- the right side of a pattern binding
  -- a right side by itself means the same as a case on nothing with its row alone
  side_same : (lets : FlatLets) (arms : FlatArms) (env : List Val) → meaning calls (side_term lets arms) valued env ≡ meaning calls (case_term no_terms (more_rows no_flat_patterns lets arms no_rows)) valued env
  side_same lets (body_arm t) env =
      tried_alone (bound calls lets env) (λ inner. meaning calls t valued inner)
      ∙ ap (λ z. what_is_taken (or_try (and_try (tried (bound calls lets z)) (λ inner. tried (meaning calls t valued inner))) passed_over)) (sym (append-nil env))
  side_same lets no_arms env = refl
  side_same lets (more_arms g t others) env = refl

  side_case : (ρ : Thunks) (body : RightSide Bound) (wheres : LocalBindings Bound) (lets : FlatLets) (arms : FlatArms) (env : List Val) (d : ℕ) (ns : Meants Bound) (names : Thunks) → IfSome (bound calls lets (env ++ [])) (Grown (env ++ []) d ns names)
      → ((inner : List Val) → Grown (env ++ []) d ns names inner → Whichever (arms_meaning calls arms valued inner) (Passes program (the_side program (inside_names ρ wheres) body)) (ReachesAnswer program (Taken program (the_side program (inside_names ρ wheres) body)) nothing valued))
      → IfSome (meaning calls (case_term no_terms (more_rows no_flat_patterns lets arms no_rows)) valued env >>= as_value) (Stands program (kept_side ρ body wheres))
  side_case ρ body wheres lets arms env d ns names h k =
      value_stands program (Taken program (the_side program (inside_names ρ wheres) body)) (kept_side ρ body wheres) (meaning calls (case_term no_terms (more_rows no_flat_patterns lets arms no_rows)) valued env)
      (λ f g. side_given program ρ body wheres f g)
      (if_taken Unit _ (or_try (and_try (tried (bound calls lets (env ++ []))) (λ inner. arms_meaning calls arms valued inner)) passed_over)
      (whichever_or Unit Unit Unit (ReachesAnswer program (Taken program (the_side program (inside_names ρ wheres) body)) nothing valued) (λ a. ⊥) (ReachesAnswer program (Taken program (the_side program (inside_names ρ wheres) body)) nothing valued)
      (and_try (tried (bound calls lets (env ++ []))) (λ inner. arms_meaning calls arms valued inner)) passed_over
      (whichever_on ⊥ Unit (Grown (env ++ []) d ns names) _ (tried (bound calls lets (env ++ []))) _ (whichever_tried ⊥ _ (bound calls lets (env ++ [])) h) (λ z. tt)
      (λ inner g. whichever_map _ Unit _ (ReachesAnswer program (Taken program (the_side program (inside_names ρ wheres) body)) nothing valued) (arms_meaning calls arms valued inner) (λ z. tt) (λ a r. r) (k inner g)))
      (λ z. tt) (λ a r. r) (λ x y. tt) (λ a x z. absurd z)))

  -- bind the variables of a pattern
  matched_case : (q : FlatPattern) (u : FlatTerm) (lets : FlatLets) (n : ℕ) (p : Pattern Bound) (env : List Val) (t : Thunk) (P : List Val → Type 0) → IsPattern binding_of p q n → IfSome (meaning calls u valued env >>= as_value) (Stands program t)
      → ((ws : List Val) → PatternTakes program n (matching program p t) ws → IfSome (bound calls lets (env ++ ws)) P) → IfSome (bound calls (more_lets q u lets) env) P
  matched_case q u lets n p env t P i h k = if_on _ _ (meaning calls u valued env >>= as_value) _ h
      (λ v s. if_on (PatternTakes program n (matching program p t)) _ (what_is_taken (matched q v)) _ (if_taken _ _ (matched q v) (pattern_is_matched program i t v s)) k)

  grown_by : (env ws : List Val) (d : ℕ) (ms : Meants Bound) (ts : Thunks) (inner : List Val) → Grown (env ++ ws) d ms ts inner → Grown env d ms ts inner
  grown_by env ws d ms ts inner g = record { others = ws ++ g.others; grown = let e : (env ++ ws) ++ g.others ≡ inner = g.grown in rw append_assoc at e; long = g.long; meant = g.meant }

  long_by : (env ws : List Val) (d n : ℕ) → length env ≡ d → length ws ≡ n → length (env ++ ws) ≡ n + d
  long_by env ws d n l m = let e : length (env ++ ws) ≡ length env + length ws = length-append env ws in omega arith

  -- == The law ==

  module _ (right : CallsAreRight) where
    mutual
      pub flat_law : {d : ℕ} {E : Meants Bound} {e : Expression Bound} {args : Meants Bound} {t : FlatTerm} → IsFlat program IsFunction d E e args t → (env : List Val) (ρ ts : Thunks) (mode : Mode) → length env ≡ d
          → AllMeant program env E ρ → AllMeant program env args ts → IfSome (meaning calls t mode env) (Reached ρ e ts mode)
      flat_law (is_local {E = E} {a = a} {x = x} {k = k} {y = y} e g) env ρ ts mode l h i = local_case E a x k y e g env ρ ts mode h i
      flat_law (is_argument {E = E} {a = a} {x = x} {k = k} {E' = E'} {e = e} {t = t} b g f) env ρ ts mode l h i =
          named_case E a x k (suspended E' e) b g env ρ ts mode (meaning calls t mode env) h
          (λ th m. reach_on program (Gives program (evaluate m.0 e)) _ ts mode (meaning calls t mode env) (λ r. forced_given program th _ r m.1) (flat_law f env m.0 ts mode l m.2 i))
      flat_law (is_used {E = E} {a = a} {x = x} {k = k} {E' = E'} {cs = cs} {t = t} b g f) env ρ ts mode l h i =
          named_case E a x k (local_use E' cs) b g env ρ ts mode (meaning calls t mode env) h
          (λ th m. reach_on program (ClausesGive program m.0 cs) _ ts mode (meaning calls t mode env) (λ r. forced_given program th _ r m.1) (inlined_law f env m.0 ts mode l m.2 i))
      flat_law (is_called {a = a} {x = x} {n = n} {i = j} {ts = us} b g f) env ρ ts mode l h i = called_case right a x n j us b g env ρ ts mode (data_law f env ts l i)
      flat_law (is_inlined {a = a} {x = x} {n = n} {cs = cs} {t = t} b g f) env ρ ts mode l h i =
          reach_on program (ClausesGive program nothing cs) _ ts mode (meaning calls t mode env) (λ r c. declared_given program ρ a x n r b (clauses_declare program n cs r g c)) (inlined_law f env nothing ts mode l tt i)
      flat_law (is_constructor {args = args} {a = a} {c = c} {n = n} {place = place} {type = type} {ts = us} b g f) env ρ ts mode l h i =
          built_case _ type place us env ts ts mode (data_law f env ts l i) (λ vs s. constructor_reached program ρ a c n place ts vs b (g ∙ ap Some (meant_many program env args ts i)) s)
      flat_law (is_application {E = E} {args = args} {a = a} {head = head} {parts = parts} {t = t} f) env ρ ts mode l h i =
          application_reached program ρ a head parts ts mode (meaning calls t mode env)
          (flat_law f env ρ (joined (kept_parts ρ parts) ts) mode l h (all_joined program env (suspended_parts E parts) args (kept_parts ρ parts) ts (parts_meant program env E ρ parts h) i))
      flat_law (is_tuple_of f) env ρ (and_then t ts) mode l h i = absurd i
      flat_law (is_tuple_of {type = type} {E = E} {a = a} {parts = parts} {ts = us} f) env ρ nothing mode l h i =
          built_case _ type 0 us env nothing (kept_parts ρ parts) mode (data_law f env (kept_parts ρ parts) l (parts_meant program env E ρ parts h)) (λ vs s. tuple_reached program ρ a parts vs s)
      flat_law (is_if {E = E} {args = args} {a = a} {b = b} {e = e} {e' = e'} {s = s} {t = t} {u = u} f g k) env ρ ts mode l h i =
          let m : length (env ++ []) ≡ _ = ap length (append-nil env) ∙ l in
          if_law ρ a b e e' s t u env ts mode (flat_law f env ρ nothing valued l h tt)
          (flat_law g (env ++ []) ρ ts mode m (all_more program env [] E ρ h) (all_more program env [] args ts i)) (flat_law k (env ++ []) ρ ts mode m (all_more program env [] E ρ h) (all_more program env [] args ts i))
      flat_law (is_last {a = a} {b = b} {e = e} {t = t} f) env ρ ts mode l h i = reach_on program _ _ ts mode (meaning calls t mode env) (λ r g. last_given program ρ a b e r g) (flat_law f env ρ ts mode l h i)
      flat_law (is_let_then {d' = d'} {E = E} {args = args} {ms = ms} {a = a} {b = b} {group = group} {ss = ss} {lets = lets} {t = t} f g) env ρ ts mode l h i =
          if_on _ _ (bound calls lets env) _ (placed_law f env ρ l h (unplaced_meant program env ρ group 0 (length (group_variables group))))
          (λ inner w. reach_on program (Gives program (evaluate (inside_names ρ group) (do_block a ss))) _ ts mode (meaning calls t mode inner) (λ r k. let_then_given program ρ a b group ss r k)
          (flat_law g inner (inside_names ρ group) ts mode w.long
          (all_joined program inner E ms ρ (kept_names ρ group 0 (length (group_variables group))) (kept_meant env w.others inner E ρ w.grown h) w.meant) (kept_meant env w.others inner args ts w.grown i)))
      flat_law (is_run f g) env ρ (and_then t ts) mode l h i = absurd i
      flat_law (is_run {d = d} {E = E} {a = a} {b = b} {e = e} {s = s} {ss = ss} {t = t} {u = u} f g) env ρ nothing mode l h i =
          action_reached program ρ _ _ mode _ (run_given program ρ a b e s ss)
          (bind_case program (action Then (and_then (kept ρ e) (and_then (kept ρ (do_block a (more_statements s ss))) nothing))) (kept ρ e) (λ v. kept ρ (do_block a (more_statements s ss))) (λ R ss. refl) (λ A R ss inputs. refl)
          mode (meaning calls t mode env) (λ m v. meaning calls u m (env ++ v ∷ []))
          (reach_on program _ _ nothing mode (meaning calls t mode env) (λ r k. kept_given program ρ e r k) (flat_law f env ρ nothing mode l h tt))
          (λ m v vt z. reach_on program _ _ nothing m (meaning calls u m (env ++ v ∷ [])) (λ r k. kept_given program ρ (do_block a (more_statements s ss)) r k)
          (flat_law g (env ++ v ∷ []) ρ nothing m (length_one env v d l) (all_more program env (v ∷ []) E ρ h) tt)))
      flat_law (is_bound f g) env ρ (and_then t ts) mode l h i = absurd i
      flat_law (is_bound {d = d} {E = E} {a = a} {b = b} {p = p} {e = e} {ss = ss} {t = t} {u = u} f g) env ρ nothing mode l h i =
          action_reached program ρ _ _ mode _ (bind_given program ρ a b p e ss)
          (bind_case program (action Bind (and_then (kept ρ e) (and_then (rest_of program ρ p (do_block a ss)) nothing))) (kept ρ e) (λ v. kept_call (rest_of program ρ p (do_block a ss)) (and_then v nothing)) (λ R ss. refl) (λ A R ss inputs. refl)
          mode (meaning calls t mode env) (λ m v. meaning calls u m (env ++ v ∷ []))
          (reach_on program _ _ nothing mode (meaning calls t mode env) (λ r k. kept_given program ρ e r k) (flat_law f env ρ nothing mode l h tt))
          (λ m v vt z. call_reaches program (rest_of program ρ p (do_block a ss)) (and_then vt nothing) m (meaning calls u m (env ++ v ∷ []))
          (rest_reached program ρ p (do_block a ss) (and_then vt nothing) m (meaning calls u m (env ++ v ∷ []))
          (lambda_law g (env ++ v ∷ []) ρ (and_then vt nothing) m (length_one env v d l) (all_more program env (v ∷ []) E ρ h) (last_meant env v d vt l z, tt)))))
      flat_law (is_return b f) env ρ nothing mode l h i = absurd i
      flat_law (is_return b f) env ρ (and_then th (and_then x ts)) mode l h i = absurd (i.1)
      flat_law (is_return {a = a} {x = x} {t = t} b f) env ρ (and_then th nothing) mode l h i =
          reaches_operation program Return (and_then th nothing) refl (λ R. refl) ρ a x b mode _
          (if_on _ _ (meaning calls t valued env >>= as_value) _ (datum_law f env th l i.0) (λ v s. return_case program th v s mode))
      flat_law (is_signal b f) env ρ nothing mode l h i = absurd i
      flat_law (is_signal b f) env ρ (and_then th (and_then x ts)) mode l h i = absurd (i.1)
      flat_law (is_signal {a = a} {x = x} {t = t} b f) env ρ (and_then th nothing) mode l h i =
          reaches_operation program Signal (and_then th nothing) refl (λ R. refl) ρ a x b mode _
          (if_on _ _ (meaning calls t valued env >>= as_value) _ (datum_law f env th l i.0) (λ v s. signal_case program th v s mode))
      flat_law (is_put b f) env ρ nothing mode l h i = absurd i
      flat_law (is_put b f) env ρ (and_then th (and_then x ts)) mode l h i = absurd (i.1)
      flat_law (is_put {a = a} {x = x} {t = t} b f) env ρ (and_then th nothing) mode l h i =
          reaches_operation program Put (and_then th nothing) refl (λ R. refl) ρ a x b mode _
          (if_on _ _ (meaning calls t valued env >>= as_value) _ (datum_law f env th l i.0) (λ v s. put_case program th v s mode))
      flat_law (is_get b) env ρ (and_then th ts) mode l h i = absurd i
      flat_law (is_get {a = a} {x = x} b) env ρ nothing mode l h i = if_map _ _ (got mode) (λ answer o. reaches_get program ρ a x mode b answer o) (get_case program mode)
      flat_law (is_lift b f) env ρ nothing mode l h i = absurd i
      flat_law (is_lift b f) env ρ (and_then th (and_then x ts)) mode l h i = absurd (i.1)
      flat_law (is_lift {E' = E'} {a = a} {x = x} {e = e} {t = t} b f) env ρ (and_then th nothing) mode l h i =
          reaches_operation program Lift (and_then th nothing) refl (λ R. refl) ρ a x b mode _
          (lift_case program th (λ m. meaning calls t m env)
          (λ m. forced_case E' e env th th i.0.0 nothing m (meaning calls t m env) i.0.1 (flat_law f env i.0.0 nothing m l i.0.2 tt)) mode)
      flat_law (is_bind b f g) env ρ nothing mode l h i = absurd i
      flat_law (is_bind b f g) env ρ (and_then th nothing) mode l h i = absurd (i.1)
      flat_law (is_bind b f g) env ρ (and_then th (and_then kh (and_then x ts))) mode l h i = absurd (i.1.1)
      flat_law (is_bind {d = d} {E' = E'} {E'' = E''} {a = a} {x = x} {e = e} {k = k} {t = t} {u = u} b f g) env ρ (and_then th (and_then kh nothing)) mode l h i =
          reaches_operation program Bind (and_then th (and_then kh nothing)) refl (λ R. refl) ρ a x b mode _
          (bind_case program (action Bind (and_then th (and_then kh nothing))) th (λ v. kept_call kh (and_then v nothing)) (λ R ss. refl) (λ A R ss inputs. refl) mode (meaning calls t mode env) (λ m v. meaning calls u m (env ++ v ∷ []))
          (forced_case E' e env th th i.0.0 nothing mode (meaning calls t mode env) i.0.1 (flat_law f env i.0.0 nothing mode l i.0.2 tt))
          (λ m v vt s. call_reaches program kh (and_then vt nothing) m (meaning calls u m (env ++ v ∷ []))
          (forced_case E'' k env kh kh i.1.0.0 (and_then vt nothing) m (meaning calls u m (env ++ v ∷ [])) i.1.0.1
          (flat_law g (env ++ v ∷ []) i.1.0.0 (and_then vt nothing) m (length_one env v d l) (all_more program env (v ∷ []) E'' i.1.0.0 i.1.0.2) (last_meant env v d vt l s, tt)))))
      flat_law (is_then b f g) env ρ nothing mode l h i = absurd i
      flat_law (is_then b f g) env ρ (and_then th nothing) mode l h i = absurd (i.1)
      flat_law (is_then b f g) env ρ (and_then th (and_then kh (and_then x ts))) mode l h i = absurd (i.1.1)
      flat_law (is_then {d = d} {E' = E'} {E'' = E''} {a = a} {x = x} {e = e} {k = k} {t = t} {u = u} b f g) env ρ (and_then th (and_then kh nothing)) mode l h i =
          reaches_operation program Then (and_then th (and_then kh nothing)) refl (λ R. refl) ρ a x b mode _
          (bind_case program (action Then (and_then th (and_then kh nothing))) th (λ v. kh) (λ R ss. refl) (λ A R ss inputs. refl) mode (meaning calls t mode env) (λ m v. meaning calls u m (env ++ v ∷ []))
          (forced_case E' e env th th i.0.0 nothing mode (meaning calls t mode env) i.0.1 (flat_law f env i.0.0 nothing mode l i.0.2 tt))
          (λ m v vt s. forced_case E'' k env kh kh i.1.0.0 nothing m (meaning calls u m (env ++ v ∷ [])) i.1.0.1
          (flat_law g (env ++ v ∷ []) i.1.0.0 nothing m (length_one env v d l) (all_more program env (v ∷ []) E'' i.1.0.0 i.1.0.2) tt)))
      flat_law (is_extrude b f g) env ρ nothing mode l h i = absurd i
      flat_law (is_extrude b f g) env ρ (and_then th nothing) mode l h i = absurd (i.1)
      flat_law (is_extrude b f g) env ρ (and_then th (and_then st (and_then x ts))) mode l h i = absurd (i.1.1)
      flat_law (is_extrude {E' = E'} {a = a} {x = x} {e = e} {t = t} {u = u} b f g) env ρ (and_then th (and_then st nothing)) mode l h i =
          reaches_operation program Extrude (and_then th (and_then st nothing)) refl (λ R. refl) ρ a x b mode _
          (if_on _ _ (meaning calls u valued env >>= as_value) _ (datum_law g env st l i.1.0)
          (λ s k. extrude_case program th st s k (λ m. meaning calls t m env)
          (λ m. forced_case E' e env th th i.0.0 nothing m (meaning calls t m env) i.0.1 (flat_law f env i.0.0 nothing m l i.0.2 tt)) mode))
      flat_law (is_lambda {a = a} {p = p} {pats = pats} {body = body} {t = t} f) env ρ ts mode l h i = lambda_reached program ρ a p pats body ts mode (meaning calls t mode env) (lambda_law f env ρ ts mode l h i)
      flat_law (is_let {d' = d'} {E = E} {args = args} {ms = ms} {a = a} {group = group} {body = body} {lets = lets} {t = t} f g) env ρ ts mode l h i =
          if_on _ _ (bound calls lets env) _ (placed_law f env ρ l h (unplaced_meant program env ρ group 0 (length (group_variables group))))
          (λ inner w. reach_on program (Gives program (evaluate (inside_names ρ group) body)) _ ts mode (meaning calls t mode inner) (λ r. let_given program ρ a group body r)
          (flat_law g inner (inside_names ρ group) ts mode w.long
          (all_joined program inner E ms ρ (kept_names ρ group 0 (length (group_variables group))) (kept_meant env w.others inner E ρ w.grown h) w.meant) (kept_meant env w.others inner args ts w.grown i)))
      flat_law (is_case {a = a} {e = e} {rows = cs} {s = s} {frows = frows} f g) env ρ ts mode l h i =
          if_on (λ vs. ColumnsMeant program env (value_column no_columns) (and_then (kept ρ e) nothing) vs) _ (values calls (more_terms s no_terms) env) _
          (if_on _ _ (meaning calls s valued env >>= as_value) _ (value_stands program _ (kept ρ e) (meaning calls s valued env) (λ r. kept_given program ρ e r) (flat_law f env ρ nothing valued l h tt)) (λ v k. (k, tt)))
          (λ vs c. if_taken (Passes program (the_rows program ρ cs (and_then (kept ρ e) nothing))) _ (rows_meaning calls frows mode env vs)
          (whichever_map _ _ (ReachesAnswer program (Taken program (the_rows program ρ cs (and_then (kept ρ e) nothing))) ts mode) _ (rows_meaning calls frows mode env vs) (λ p. p)
          (λ b r. reach_taken program _ _ ts mode b (λ o q. case_given program ρ a e cs o (rows_given program ρ cs (and_then (kept ρ e) nothing) o q)) r)
          (rows_law g env ρ (and_then (kept ρ e) nothing) vs ts mode l h c i)))

      pub data_law : {d : ℕ} {args : Meants Bound} {us : FlatTerms} → AreData program IsFunction d args us → (env : List Val) (ts : Thunks) → length env ≡ d → AllMeant program env args ts → IfSome (values calls us env) (AllStand program ts)
      data_law no_data env nothing l h = tt
      data_law no_data env (and_then t ts) l h = absurd h
      data_law (more_data f g) env nothing l h = absurd h
      data_law (more_data {t = u} {ts = us} f g) env (and_then t ts) l h = data_case u us env t ts (datum_law f env t l h.0) (data_law g env ts l h.1)

      pub datum_law : {d : ℕ} {m : Meant Bound} {u : FlatTerm} → IsDatum program IsFunction d m u → (env : List Val) (t : Thunk) → length env ≡ d → MeantBy program env m t
          → IfSome (meaning calls u valued env >>= as_value) (Stands program t)
      datum_law (suspended_datum {E = E} {e = e} {t = u} f) env t l h = suspended_value E e u env t h.0 h.1 (flat_law f env h.0 nothing valued l h.2 tt)
      datum_law (flat_datum {y = y}) env t l h = flat_value y env t h

      pub lambda_law : {d : ℕ} {E : Meants Bound} {ps : List (Pattern Bound)} {body : Expression Bound} {args : Meants Bound} {t : FlatTerm} → IsLambda program IsFunction d E ps body args t
          → (env : List Val) (ρ ts : Thunks) (mode : Mode) → length env ≡ d → AllMeant program env E ρ → AllMeant program env args ts → IfSome (meaning calls t mode env) (LambdaReaches program ρ ps body ts mode)
      lambda_law (lambda_body {body = body} {t = t} f) env ρ ts mode l h i = lambda_ends program ρ body ts mode (meaning calls t mode env) (flat_law f env ρ ts mode l h i)
      lambda_law (lambda_named f) env ρ nothing mode l h i = absurd i
      lambda_law (lambda_named {y = y} {E = E} {args = args} {a = a} {x = x} {ps = ps} {body = body} {t = t} f) env ρ (and_then th ts) mode l h i =
          lambda_steps program ρ (and_then th nothing) (variable_pattern a x) ps body th ts mode (meaning calls t mode env) (always (λ n. refl))
          (lambda_law f env (joined ρ (and_then th nothing)) ts mode l (all_joined program env E (more_meants (flat y) no_meants) ρ (and_then th nothing) h (i.0, tt)) i.1)
      lambda_law (lambda_matched f p g) env ρ nothing mode l h i = absurd i
      lambda_law (lambda_matched {d = d} {n = n} {E = E} {args = args} {p = p} {ps = ps} {body = body} {q = q} {s = s} {t = t} f k g) env ρ (and_then th ts) mode l h i =
          lambda_case q s n p ps body t env ρ th ts mode k (datum_law f env th l i.0)
          (λ inner o. lambda_law g inner (joined ρ o.takes.them) ts mode (opens_long env d n p th inner l o) (opens_meant env d n p th inner E ρ l o h) (kept_meant env o.others inner args ts o.grown i.1))

      pub inlined_law : {d : ℕ} {E : Meants Bound} {cs : Alternatives Bound} {args : Meants Bound} {t : FlatTerm} → IsInlined program IsFunction d E cs args t
          → (env : List Val) (ρ ts : Thunks) (mode : Mode) → length env ≡ d → AllMeant program env E ρ → AllMeant program env args ts → IfSome (meaning calls t mode env) (ReachesAnswer program (ClausesGive program ρ cs) ts mode)
      inlined_law (is_group {d' = d'} {E = E} {params = params} {rest = rest} {cs = cs} {lets = lets} {t = t} f g) env ρ ts mode l h i =
          group_case ρ cs ts lets t d' params rest env mode (params_law f env ts l i)
          (λ inner w. body_law g inner ρ (first_thunks (patterns_before cs) ts) (later_thunks (patterns_before cs) ts) mode w.long (kept_meant env w.others inner E ρ w.grown h) w.params_meant w.rest_meant)

      pub params_law : {d n : ℕ} {args : Meants Bound} {lets : FlatLets} {d' : ℕ} {params rest : Meants Bound} → AreParams program IsFunction d n args lets d' params rest
          → (env : List Val) (ts : Thunks) → length env ≡ d → AllMeant program env args ts → IfSome (bound calls lets env) (Taking env n ts d' params rest)
      params_law no_params env ts l i = record { others = []; grown = append-nil env; long = l; params_meant = tt; rest_meant = i; enough = omega arith }
      params_law (data_param f g) env nothing l i = absurd i
      params_law (data_param {d = d} {d' = d'} {n = n} {args = args} {params = params} {rest = rest} {t = u} {lets = lets} f g) env (and_then th ts) l i =
          bound_case u lets env th _ (datum_law f env th l i.0)
          (λ v s. if_map _ _ (bound calls lets (env ++ v ∷ [])) (λ inner w. taking_data env v n d d' th ts params rest inner l s w)
          (params_law g (env ++ v ∷ []) ts (length_one env v d l) (all_more program env (v ∷ []) args ts i.1)))
      params_law (function_param g) env nothing l i = absurd i
      params_law (function_param {d' = d'} {n = n} {E = E} {params = params} {rest = rest} {e = e} {lets = lets} g) env (and_then th ts) l i =
          if_map _ _ (bound calls lets env) (λ inner w. taking_function env n d' (suspended E e) th ts params rest inner i.0 w) (params_law g env ts l i.1)

      pub body_law : {d : ℕ} {E : Meants Bound} {cs : Alternatives Bound} {params args : Meants Bound} {t : FlatTerm} → IsBody program IsFunction d E cs params args t
          → (env : List Val) (ρ ps ts : Thunks) (mode : Mode) → length env ≡ d → AllMeant program env E ρ → AllMeant program env params ps → AllMeant program env args ts
          → IfSome (meaning calls t mode env) (ReachesAnswer program (RowsGive program ρ cs ps) ts mode)
      body_law (plain_body {E = E} {params = params} {args = args} {ms = ms} {a = a} {pats = pats} {e = e} {wheres = wheres} {lets = lets} {t = t} v f g) env ρ ps ts mode l h i j =
          if_on _ _ (bound calls lets env) _ (placed_law f env (joined ρ ps) l (all_joined program env E params ρ ps h i) (unplaced_meant program env (joined ρ ps) wheres 0 (length (group_variables wheres))))
          (λ inner w. reach_on program (Gives program (evaluate (inside_names (joined ρ ps) wheres) e)) _ ts mode (meaning calls t mode inner)
          (λ r k. only_row program ρ (alternative a pats (plain_side e) wheres) ps r
          (row_takes program ρ a pats (plain_side e) wheres ps ps r (always (variables_match env pats params ps v i)) (plain_taken program (inside_names (joined ρ ps) wheres) e r k)))
          (flat_law g inner (inside_names (joined ρ ps) wheres) ts mode w.long
          (all_joined program inner (joined_meants E params) ms (joined ρ ps) (kept_names (joined ρ ps) wheres 0 (length (group_variables wheres)))
          (kept_meant env w.others inner (joined_meants E params) (joined ρ ps) w.grown (all_joined program env E params ρ ps h i)) w.meant) (kept_meant env w.others inner args ts w.grown j)))
      body_law (rows_body {params = params} {cs = cs} {cols = cols} {ts = us} {frows = frows} m f) env ρ ps ts mode l h i j =
          if_on (ColumnsMeant program env cols ps) _ (values calls us env) _ (columns_meant env params cols us ps m i)
          (λ vs c. if_taken (Passes program (the_rows program ρ cs ps)) _ (rows_meaning calls frows mode env vs)
          (whichever_map _ _ (ReachesAnswer program (Taken program (the_rows program ρ cs ps)) ts mode) _ (rows_meaning calls frows mode env vs) (λ p. p)
          (λ b r. reach_taken program _ _ ts mode b (λ o q. rows_given program ρ cs ps o q) r)
          (rows_law f env ρ ps vs ts mode l h c j)))

      pub rows_law : {d : ℕ} {E : Meants Bound} {cols : Columns Bound} {cs : Alternatives Bound} {args : Meants Bound} {frows : FlatRows} → AreRows program IsFunction d E cols cs args frows
          → (env : List Val) (ρ ps : Thunks) (vs : List Val) (ts : Thunks) (mode : Mode) → length env ≡ d → AllMeant program env E ρ → ColumnsMeant program env cols ps vs → AllMeant program env args ts
          → Whichever (rows_meaning calls frows mode env vs) (Passes program (the_rows program ρ cs ps)) (ReachesAnswer program (Taken program (the_rows program ρ cs ps)) ts mode)
      rows_law none_rows env ρ ps vs ts mode l h c i = always (λ n. refl)
      rows_law (some_rows {d' = d'} {d'' = d''} {E = E} {args = args} {ms = ms} {ns = ns} {a = a} {pats = pats} {body = body} {wheres = wheres} {others = cs} {qs = qs} {lets = lets} {arms = arms} {frows = frows} p f g k)
          env ρ ps vs ts mode l h c i =
          rows_reached program ρ (alternative a pats body wheres) cs ps ts mode
          (and_try (row_matched qs vs) (λ xs. and_try (tried (bound calls lets (env ++ xs))) (λ inner. arms_meaning calls arms mode inner))) (rows_meaning calls frows mode env vs)
          (whichever_on (PatternPasses program (matching_row program pats ps)) _ (RowTakes program env d' ms (matching_row program pats ps)) _ (row_matched qs vs) _ (row_is_matched program p env ps vs l c)
          (λ z. row_not_matched program ρ a pats body wheres ps z)
          (λ ws w. whichever_on ⊥ _ (Grown (env ++ ws) d'' ns (kept_names (joined ρ w.them) wheres 0 (length (group_variables wheres)))) _ (tried (bound calls lets (env ++ ws))) _
          (whichever_tried ⊥ _ (bound calls lets (env ++ ws)) (placed_law f (env ++ ws) (joined ρ w.them) w.many
          (all_joined program (env ++ ws) E ms ρ w.them (all_more program env ws E ρ h) w.stand) (unplaced_meant program (env ++ ws) (joined ρ w.them) wheres 0 (length (group_variables wheres)))))
          (λ z. absurd z)
          (λ inner u. whichever_map _ _ (ReachesAnswer program (Taken program (the_side program (inside_names (joined ρ w.them) wheres) body)) ts mode) _ (arms_meaning calls arms mode inner)
          (λ z. row_passes program ρ a pats body wheres ps w.them w.had z)
          (λ b r. reach_taken program _ _ ts mode b (λ o z. row_takes program ρ a pats body wheres ps w.them o w.had z) r)
          (arms_law g inner (inside_names (joined ρ w.them) wheres) ts mode u.long
          (all_joined program inner (joined_meants E ms) ns (joined ρ w.them) (kept_names (joined ρ w.them) wheres 0 (length (group_variables wheres)))
          (kept_meant (env ++ ws) u.others inner (joined_meants E ms) (joined ρ w.them) u.grown (all_joined program (env ++ ws) E ms ρ w.them (all_more program env ws E ρ h) w.stand)) u.meant)
          (kept_meant (env ++ ws) u.others inner args ts u.grown (all_more program env ws args ts i))))))
          (rows_law k env ρ ps vs ts mode l h c i)

      pub arms_law : {d : ℕ} {E : Meants Bound} {body : RightSide Bound} {args : Meants Bound} {arms : FlatArms} → AreArms program IsFunction d E body args arms
          → (env : List Val) (ρ ts : Thunks) (mode : Mode) → length env ≡ d → AllMeant program env E ρ → AllMeant program env args ts
          → Whichever (arms_meaning calls arms mode env) (Passes program (the_side program ρ body)) (ReachesAnswer program (Taken program (the_side program ρ body)) ts mode)
      arms_law (one_arm {e = e} {t = t} f) env ρ ts mode l h i =
          whichever_tried _ _ (meaning calls t mode env) (reach_on program (Gives program (evaluate ρ e)) _ ts mode (meaning calls t mode env) (λ r. plain_taken program ρ e r) (flat_law f env ρ ts mode l h i))
      arms_law (guarded_arms f) env ρ ts mode l h i = guarded_law f env ρ ts mode l h i

      pub guarded_law : {d : ℕ} {E : Meants Bound} {bodies : GuardedBodies Bound} {args : Meants Bound} {arms : FlatArms} → AreGuarded program IsFunction d E bodies args arms
          → (env : List Val) (ρ ts : Thunks) (mode : Mode) → length env ≡ d → AllMeant program env E ρ → AllMeant program env args ts
          → Whichever (arms_meaning calls arms mode env) (Passes program (the_guards program ρ bodies)) (ReachesAnswer program (Taken program (the_guards program ρ bodies)) ts mode)
      guarded_law none_guarded env ρ ts mode l h i = always (λ n. refl)
      guarded_law (some_guarded {g = g} {e = e} {others = others} {s = s} {t = t} {arms = arms} f k m) env ρ ts mode l h i =
          whichever_on ⊥ _ (λ v. (r : Outcome) × Gives program (evaluate ρ g) r × ShowsValue program r v) _ (tried (meaning calls s valued env >>= as_value)) _
          (whichever_tried ⊥ _ (meaning calls s valued env >>= as_value) (value_shown program _ (meaning calls s valued env) (flat_law f env ρ nothing valued l h tt))) (λ z. absurd z)
          (λ v w. guard_reached program ρ g e others ts mode (meaning calls t mode env) (arms_meaning calls arms mode env) v w.0 w.1 w.2 (flat_law k env ρ ts mode l h i) (guarded_law m env ρ ts mode l h i))

      pub placed_law : {group : LocalBindings Bound} {d : ℕ} {E ms : Meants Bound} {lets : FlatLets} {d' : ℕ} {ns : Meants Bound} → IsPlaced program IsFunction group d E ms lets d' ns
          → (env : List Val) (ρ : Thunks) → length env ≡ d → AllMeant program env E ρ → AllMeant program env ms (kept_names ρ group 0 (length (group_variables group)))
          → IfSome (bound calls lets env) (Grown env d' ns (kept_names ρ group 0 (length (group_variables group))))
      placed_law (all_placed {d = d} {ms = ms}) env ρ l h i = grown_none env d ms _ l i
      placed_law (data_placed k {d = d} {d' = d'} {E = E} {ms = ms} {ns = ns} {group = group} {cs = cs} {t = t} {lets = lets} e z f g) env ρ l h i =
          bound_case t lets env (kept_name ρ group k) _
          (value_stands program (RowsGive program (inside_names ρ group) cs nothing) (kept_name ρ group k) (meaning calls t valued env) (λ r c. name_given program ρ group k cs r e (rows_there program (inside_names ρ group) cs r z c))
          (body_law f env (inside_names ρ group) nothing nothing valued l (all_joined program env E ms ρ (kept_names ρ group 0 (length (group_variables group))) h i) tt tt))
          (λ v s. if_map _ _ (bound calls lets (env ++ v ∷ [])) (λ inner w. grown_more env v d' ns _ inner w)
          (placed_law g (env ++ v ∷ []) ρ (length_one env v d l) (all_more program env (v ∷ []) E ρ h)
          (placed_first program (env ++ v ∷ []) (flat d) ρ group k ms (length (group_variables group)) (all_more program env (v ∷ []) ms _ i) (last_meant env v d (kept_name ρ group k) l s))))
      placed_law (use_placed k {E = E} {ms = ms} {group = group} {cs = cs} e g) env ρ l h i =
          placed_law g env ρ l h (placed_first program env (local_use (joined_meants E ms) cs) ρ group k ms (length (group_variables group)) i
          (inside_names ρ group, name_like program ρ group k cs e, all_joined program env E ms ρ (kept_names ρ group 0 (length (group_variables group))) h i))
      placed_law (pattern_placed k n {d = d} {d' = d'} {d'' = d''} {E = E} {ms = ms} {ns = ns} {inner = inners} {group = group} {wheres = wheres} {p = p} {body = body} {q = q} {arms = arms} {lets = lets} {others = others} {t = t} s e i f g term m) env ρ l h j =
          let o : length (env ++ []) ≡ d = ap length (append-nil env) ∙ l in
          let w : AllMeant program env (joined_meants E ms) (inside_names ρ group) = all_joined program env E ms ρ (kept_names ρ group 0 (length (group_variables group))) h j in
          let w' : AllMeant program (env ++ []) (joined_meants E ms) (inside_names ρ group) = all_more program env [] (joined_meants E ms) (inside_names ρ group) w in
          let same : meaning calls t valued env ≡ meaning calls (case_term no_terms (more_rows no_flat_patterns lets arms no_rows)) valued env = ap (λ z. meaning calls z valued env) term ∙ side_same lets arms env in
          matched_case q t others n p env (kept_side (inside_names ρ group) body wheres) _ i
          (subst (λ z. IfSome (z >>= as_value) (Stands program (kept_side (inside_names ρ group) body wheres))) (sym same) (side_case (inside_names ρ group) body wheres lets arms env d' inners (kept_names (inside_names ρ group) wheres 0 (length (group_variables wheres)))
          (placed_law f (env ++ []) (inside_names ρ group) o w' (unplaced_meant program (env ++ []) (inside_names ρ group) wheres 0 (length (group_variables wheres))))
          (λ inner u. arms_law g inner (inside_names (inside_names ρ group) wheres) nothing valued u.long
          (all_joined program inner (joined_meants E ms) inners (inside_names ρ group) (kept_names (inside_names ρ group) wheres 0 (length (group_variables wheres)))
          (kept_meant (env ++ []) u.others inner (joined_meants E ms) (inside_names ρ group) u.grown w') u.meant) tt)))
          (λ ws z. if_map _ _ (bound calls others (env ++ ws)) (λ inner u. grown_by env ws d'' ns _ inner u)
          (placed_law m (env ++ ws) ρ (long_by env ws d n l z.many) (all_more program env ws E ρ h)
          (all_placed_meant program (env ++ ws) ρ group (length (group_variables group)) n k d ms (pattern_names_meant program s ρ n d e env ws z.them l z.many z.stand z.had) (all_more program env ws ms _ j))))
