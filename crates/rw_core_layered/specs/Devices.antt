-- Terms of devices without layers, and their traces: by recursion on the term, over the values of pure calls and the traces of calls of devices.
use Rattle.std.specs.Prelude.{ℕ, zero, suc, nat_eq, List, [], ◌∷◌, ◌++◌, length, Option, Some, None, if◌then◌else◌}
use Rattle.rw_core.specs.Values.{Val}
use Rattle.rw_core.specs.Options.{◌>>=◌}
use Rattle.rw_core.specs.Traces.{Trace, silent, signalled, and_on}
use Rattle.rw_meaning.specs.Options.{Tried, stuck, passed_over, and_try, or_try, tried, what_is_taken}
use Rattle.rw_core_flat.specs.Terms.{FlatPatterns}
use Rattle.rw_core_flat.specs.Meaning.{if_holds, row_matched}
use Rattle.rw_core_layered.specs.Pures.{PureTerm, PureTerms, PureLets, Calling, value, values, bound}

mutual
  pub data DeviceTerm : Type 0 where
    device_return : PureTerm → DeviceTerm
    device_signal : PureTerm → DeviceTerm
    -- the variable of a bind is bound in its second part
    device_bind : DeviceTerm → DeviceTerm → DeviceTerm
    device_case : PureTerms → DeviceRows → DeviceTerm
    device_let : PureLets → DeviceTerm → DeviceTerm
    -- a device, by its number, with all its arguments
    device_call : ℕ → PureTerms → DeviceTerm

  pub data DeviceRows : Type 0 where
    no_device_rows : DeviceRows
    more_device_rows : FlatPatterns → PureLets → DeviceArms → DeviceRows → DeviceRows

  pub data DeviceArms : Type 0 where
    device_body : DeviceTerm → DeviceArms
    no_device_arms : DeviceArms
    more_device_arms : PureTerm → DeviceTerm → DeviceArms → DeviceArms

-- a trace of values, where there are no states
abbrev pub DeviceTrace : Type 0
DeviceTrace = Trace Val (Unit {0})

-- the traces of calls: by the number of the device, its arguments, and the inputs
abbrev pub Tracing : Type 0
Tracing = ℕ → List Val → List Val → Option DeviceTrace

module _ (pures : Calling) (calls : Tracing) where
  abbrev mutual
    pub traced : DeviceTerm → List Val → List Val → Option DeviceTrace
    traced (device_return t) env inputs = do v ← value pures t env; Some (silent v tt inputs)
    traced (device_signal t) env inputs = do v ← value pures t env; Some (signalled (λ i. i) v tt inputs)
    traced (device_bind d e) env inputs = do t ← traced d env inputs; and_on t.outputs t.end (λ v states left. traced e (env ++ v ∷ []) left)
    traced (device_case ts rows) env inputs = do vs ← values pures ts env; what_is_taken (rows_traced rows env inputs vs)
    traced (device_let lets d) env inputs = do inner ← bound pures lets env; traced d inner inputs
    traced (device_call i ts) env inputs = do vs ← values pures ts env; calls i vs inputs

    -- the first row that is taken
    pub rows_traced : DeviceRows → List Val → List Val → List Val → Tried DeviceTrace
    rows_traced no_device_rows env inputs vs = passed_over
    rows_traced (more_device_rows ps lets arms others) env inputs vs =
        or_try (and_try (row_matched ps vs) (λ xs. and_try (tried (bound pures lets (env ++ xs))) (λ inner. arms_traced arms inner inputs))) (rows_traced others env inputs vs)

    pub arms_traced : DeviceArms → List Val → List Val → Tried DeviceTrace
    arms_traced (device_body d) env inputs = tried (traced d env inputs)
    arms_traced no_device_arms env inputs = passed_over
    arms_traced (more_device_arms g d others) env inputs =
        and_try (tried (value pures g env)) (λ v. if_holds v (tried (traced d env inputs)) (arms_traced others env inputs) stuck)

-- a device: the types of its parameters, of the value that it is finished with, of its inputs and of its outputs, and its body
pub record Device : Type 0 where
  pub params : List ℕ
  pub result : ℕ
  pub input : ℕ
  pub output : ℕ
  pub body : DeviceTerm

abbrev pub device_at : ℕ → List Device → Option Device
device_at k [] = None
device_at zero (d ∷ ds) = Some d
device_at (suc k) (d ∷ ds) = device_at k ds

-- the trace of a call of a device within a budget, which counts such calls alone: one on the way has one less, and has all its arguments
unfoldable pub trace_within : Calling → List Device → ℕ → Tracing
trace_within pures devices zero i vs inputs = None
trace_within pures devices (suc budget) i vs inputs = do
  d ← device_at i devices
  if nat_eq (length vs) (length d.params) then traced pures (trace_within pures devices budget) d.body vs inputs else None
