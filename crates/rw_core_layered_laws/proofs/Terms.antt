-- Pure terms and terms of devices have as flat terms what they have by themselves.
use Rattle.std.proofs.Common.{refl, ℕ, ◌+◌, List, [], ◌∷◌, ◌++◌, Option, Some, None}
use Rattle.rw_core.specs.Values.{Val, val, vals}
use Rattle.rw_core.specs.Options.{◌>>=◌}
use Rattle.rw_core.specs.Traces.{End, waits, finished, and_on}
use Rattle.rw_meaning.specs.Options.{stuck, tried, what_is_taken}
use Rattle.rw_core_flat.specs.Meaning.{Mode, valued, tracing, Answer, a_value, traced as traced_answer, as_value, as_trace, of_trace, goes_on, if_holds, matched, row_matched, value_at, meaning, rows_meaning, arms_meaning}
use Rattle.rw_core_flat.specs.Meaning as flat
use Rattle.rw_core_layered.specs.Pures.{PureTerm, pure_local, pure_con, pure_case, pure_let, pure_call, PureTerms, no_pures, more_pures, PureLets, no_pure_lets, more_pure_lets}
use Rattle.rw_core_layered.specs.Pures.{PureRows, no_pure_rows, more_pure_rows, PureArms, pure_body, no_pure_arms, more_pure_arms, Calling, value, values, bound, rows_value, arms_value}
use Rattle.rw_core_layered.specs.Devices.{DeviceTerm, device_return, device_signal, device_bind, device_case, device_let, device_call, DeviceRows, no_device_rows, more_device_rows, DeviceArms, device_body, no_device_arms, more_device_arms}
use Rattle.rw_core_layered.specs.Devices.{DeviceTrace, Tracing, traced, rows_traced, arms_traced}
use Rattle.rw_core_layered.specs.Embedding.{flat_pure, flat_pures, flat_lets, flat_rows, flat_arms, flat_device, flat_device_rows, flat_device_arms}
use Rattle.rw_core_layered_laws.proofs.By.{By, same, by_same, by_on, by_value, Goes, goes_same, goes_try, goes_or, goes_tried, by_taken, goes_holds}

-- == Answers ==

abbrev pub without_layers : End Val (Unit {0}) → End Val (List Val)
without_layers waits = waits
without_layers (finished v s left) = finished v [] left

-- a trace of a device without layers, as an answer
abbrev pub as_answer : DeviceTrace → Answer
as_answer t = traced_answer t.outputs (without_layers t.end)

-- == Pure terms ==

module _ (calls : Calling) (answers : Mode → ℕ → List Val → Option Answer) (h : (i : ℕ) (vs : List Val) → By a_value (calls i vs) (answers valued i vs)) where
  mutual
    pub value_flat : (t : PureTerm) (env : List Val) → By a_value (value calls t env) (meaning answers (flat_pure t) valued env)
    value_flat (pure_local k) env = known (value_at k env)
      where
        known : (x : Option Val) → By a_value x (x >>= λ v. Some (a_value v))
        known None = tt
        known (Some v) = refl
    value_flat (pure_con type place ts) env = by_on same a_value _ _ _ (λ vs. Some (a_value (val place (vals vs)))) (values_flat ts env) (λ vs. refl)
    value_flat (pure_case ts rows) env =
        by_on same a_value _ _ _ (λ vs. what_is_taken (rows_meaning answers (flat_rows rows) valued env vs)) (values_flat ts env) (λ vs. by_taken a_value _ _ (rows_flat rows env vs))
    value_flat (pure_let lets t) env = by_on same a_value _ _ _ (λ inner. meaning answers (flat_pure t) valued inner) (lets_flat lets env) (λ inner. value_flat t inner)
    value_flat (pure_call i ts) env = by_on same a_value _ _ _ (λ vs. answers valued i vs) (values_flat ts env) (λ vs. h i vs)

    pub values_flat : (ts : PureTerms) (env : List Val) → By same (values calls ts env) (flat.values answers (flat_pures ts) env)
    values_flat no_pures env = refl
    values_flat (more_pures t ts) env =
        by_on same same _ _ _ (λ v. flat.values answers (flat_pures ts) env >>= λ vs. Some (v ∷ vs)) (by_value _ _ (value_flat t env)) (λ v. by_on same same _ _ _ (λ vs. Some (v ∷ vs)) (values_flat ts env) (λ vs. refl))

    pub lets_flat : (lets : PureLets) (env : List Val) → By same (bound calls lets env) (flat.bound answers (flat_lets lets) env)
    lets_flat no_pure_lets env = refl
    lets_flat (more_pure_lets p t others) env =
        by_on same same _ _ _ (λ v. what_is_taken (matched p v) >>= λ xs. flat.bound answers (flat_lets others) (env ++ xs)) (by_value _ _ (value_flat t env))
        (λ v. by_on same same _ _ _ (λ xs. flat.bound answers (flat_lets others) (env ++ xs)) (by_same (what_is_taken (matched p v))) (λ xs. lets_flat others (env ++ xs)))

    pub rows_flat : (rows : PureRows) (env vs : List Val) → Goes a_value (rows_value calls rows env vs) (rows_meaning answers (flat_rows rows) valued env vs)
    rows_flat no_pure_rows env vs = refl
    rows_flat (more_pure_rows ps lets arms others) env vs =
        goes_or a_value _ _ _ _
        (goes_try same a_value (row_matched ps vs) (row_matched ps vs) _ _ (goes_same (row_matched ps vs))
        (λ xs. goes_try same a_value _ _ _ (λ inner. arms_meaning answers (flat_arms arms) valued inner) (goes_tried same _ _ (lets_flat lets (env ++ xs))) (λ inner. arms_flat arms inner)))
        (rows_flat others env vs)

    pub arms_flat : (arms : PureArms) (env : List Val) → Goes a_value (arms_value calls arms env) (arms_meaning answers (flat_arms arms) valued env)
    arms_flat (pure_body t) env = goes_tried a_value _ _ (value_flat t env)
    arms_flat no_pure_arms env = refl
    arms_flat (more_pure_arms g t others) env =
        goes_try same a_value _ _ _ (λ v. if_holds v (tried (meaning answers (flat_pure t) valued env)) (arms_meaning answers (flat_arms others) valued env) stuck)
        (goes_tried same _ _ (by_value _ _ (value_flat g env))) (λ v. goes_holds a_value v _ _ _ _ (goes_tried a_value _ _ (value_flat t env)) (arms_flat others env))

  -- == Devices ==

  module _ (first : ℕ) (traces : Tracing) (k : (i : ℕ) (vs inputs : List Val) → By as_answer (traces i vs inputs) (answers (tracing [] inputs) (first + i) vs)) where
    behind : (outputs : List Val) (x : Option DeviceTrace) (y : Option Answer) → By as_answer x y
        → By as_answer (x >>= λ t. Some (record { outputs = outputs ++ t.outputs; end = t.end })) (((y >>= as_trace) >>= λ t. Some (record { outputs = outputs ++ t.outputs; end = t.end })) >>= λ t. Some (of_trace t))
    behind outputs None y h = tt
    behind outputs (Some t) y h = rw h refl

    goes_flat : (outputs : List Val) (end : End Val (Unit {0})) (next : Val → List Val → Option DeviceTrace) (later : Mode → Val → Option Answer) → ((v : Val) (left : List Val) → By as_answer (next v left) (later (tracing [] left) v))
        → By as_answer (and_on outputs end (λ v states left. next v left)) (goes_on (traced_answer outputs (without_layers end)) later)
    goes_flat outputs waits next later h = refl
    goes_flat outputs (finished v s left) next later h = behind outputs (next v left) (later (tracing [] left) v) (h v left)

    signal_flat : (v : Val) (inputs : List Val) → By as_answer (traced calls traces (device_signal (pure_local 0)) (v ∷ []) inputs) (flat.shown_as_signal (tracing [] inputs) v)
    signal_flat v [] = refl
    signal_flat v (i ∷ inputs) = refl

    mutual
      pub device_flat : (d : DeviceTerm) (env inputs : List Val) → By as_answer (traced calls traces d env inputs) (meaning answers (flat_device first d) (tracing [] inputs) env)
      device_flat (device_return t) env inputs = by_on same as_answer _ _ _ (λ v. flat.returned (tracing [] inputs) v) (by_value _ _ (value_flat t env)) (λ v. refl)
      device_flat (device_signal t) env inputs = by_on same as_answer _ _ _ (λ v. flat.shown_as_signal (tracing [] inputs) v) (by_value _ _ (value_flat t env)) (λ v. signal_flat v inputs)
      device_flat (device_bind d e) env inputs =
          by_on as_answer as_answer _ _ _ (λ a. goes_on a (λ m v. meaning answers (flat_device first e) m (env ++ v ∷ []))) (device_flat d env inputs)
          (λ t. goes_flat t.outputs t.end (λ v left. traced calls traces e (env ++ v ∷ []) left) (λ m v. meaning answers (flat_device first e) m (env ++ v ∷ [])) (λ v left. device_flat e (env ++ v ∷ []) left))
      device_flat (device_case ts rows) env inputs =
          by_on same as_answer _ _ _ (λ vs. what_is_taken (rows_meaning answers (flat_device_rows first rows) (tracing [] inputs) env vs)) (values_flat ts env) (λ vs. by_taken as_answer _ _ (device_rows_flat rows env inputs vs))
      device_flat (device_let lets d) env inputs = by_on same as_answer _ _ _ (λ inner. meaning answers (flat_device first d) (tracing [] inputs) inner) (lets_flat lets env) (λ inner. device_flat d inner inputs)
      device_flat (device_call i ts) env inputs = by_on same as_answer _ _ _ (λ vs. answers (tracing [] inputs) (first + i) vs) (values_flat ts env) (λ vs. k i vs inputs)

      device_rows_flat : (rows : DeviceRows) (env inputs vs : List Val) → Goes as_answer (rows_traced calls traces rows env inputs vs) (rows_meaning answers (flat_device_rows first rows) (tracing [] inputs) env vs)
      device_rows_flat no_device_rows env inputs vs = refl
      device_rows_flat (more_device_rows ps lets arms others) env inputs vs =
          goes_or as_answer _ _ _ _
          (goes_try same as_answer (row_matched ps vs) (row_matched ps vs) _ _ (goes_same (row_matched ps vs))
          (λ xs. goes_try same as_answer _ _ _ (λ inner. arms_meaning answers (flat_device_arms first arms) (tracing [] inputs) inner) (goes_tried same _ _ (lets_flat lets (env ++ xs))) (λ inner. device_arms_flat arms inner inputs)))
          (device_rows_flat others env inputs vs)

      device_arms_flat : (arms : DeviceArms) (env inputs : List Val) → Goes as_answer (arms_traced calls traces arms env inputs) (arms_meaning answers (flat_device_arms first arms) (tracing [] inputs) env)
      device_arms_flat (device_body d) env inputs = goes_tried as_answer _ _ (device_flat d env inputs)
      device_arms_flat no_device_arms env inputs = refl
      device_arms_flat (more_device_arms g d others) env inputs =
          goes_try same as_answer _ _ _ (λ v. if_holds v (tried (meaning answers (flat_device first d) (tracing [] inputs) env)) (arms_meaning answers (flat_device_arms first others) (tracing [] inputs) env) stuck)
          (goes_tried same _ _ (by_value _ _ (value_flat g env))) (λ v. goes_holds as_answer v _ _ _ _ (goes_tried as_answer _ _ (device_flat d env inputs)) (device_arms_flat others env inputs))
