-- A greater budget never changes a trace of a device or what a layered program gives.
use Rattle.std.proofs.Common.{◌≡◌, ℕ, zero, suc, ◌+◌, nat_eq, List, [], ◌∷◌, ◌++◌, length, refl, arith}
use Rattle.rw_core.specs.Values.{Val}
use Rattle.rw_core.specs.Options.{Grows}
use Rattle.rw_core.specs.Traces.{shown}
use Rattle.rw_core.specs.Systems.{System, system_outputs}
use Rattle.rw_core.proofs.Options.{grows_same, grows_on}
use Rattle.rw_core.proofs.Systems.{system_follows, alike_same}
use Rattle.rw_meaning.specs.Options.{stuck, tried}
use Rattle.rw_meaning.proofs.Grows.{Keeps, keeps_same, keeps_on, keeps_or, keeps_tried, grows_taken}
use Rattle.rw_core_flat.specs.Meaning.{if_holds, row_matched}
use Rattle.rw_core_flat.proofs.Growing.{unchanged, followed, and_on_grows, holds_grows, if_grows}
use Rattle.rw_core_layered.specs.Pures.{Calling, value, values, bound}
use Rattle.rw_core_layered.specs.Calls.{calls_of}
use Rattle.rw_core_layered.specs.Devices.{DeviceTerm, device_return, device_signal, device_bind, device_case, device_let, device_call, DeviceRows, no_device_rows, more_device_rows, DeviceArms, device_body, no_device_arms, more_device_arms}
use Rattle.rw_core_layered.specs.Devices.{Device, Tracing, traced, rows_traced, arms_traced, device_at, trace_within}
use Rattle.rw_core_layered.specs.Layered.{LayeredProgram, read_devices, layered_within}

module _ (pures : Calling) (calls later : Tracing) (h : (i : ℕ) (vs inputs : List Val) → Grows (calls i vs inputs) (later i vs inputs)) where
  mutual
    pub trace_grows : (d : DeviceTerm) (env inputs : List Val) → Grows (traced pures calls d env inputs) (traced pures later d env inputs)
    trace_grows (device_return t) env inputs = grows_same (traced pures calls (device_return t) env inputs)
    trace_grows (device_signal t) env inputs = grows_same (traced pures calls (device_signal t) env inputs)
    trace_grows (device_bind d e) env inputs =
        grows_on _ _ _ _ (trace_grows d env inputs)
        (λ t. and_on_grows t.outputs t.end (λ v states left. traced pures calls e (env ++ v ∷ []) left) (λ v states left. traced pures later e (env ++ v ∷ []) left) (λ v states left. trace_grows e (env ++ v ∷ []) left))
    trace_grows (device_case ts rows) env inputs = unchanged (values pures ts env) _ _ (λ vs. grows_taken _ _ (rows_keep rows env inputs vs))
    trace_grows (device_let lets d) env inputs = unchanged (bound pures lets env) _ _ (λ inner. trace_grows d inner inputs)
    trace_grows (device_call i ts) env inputs = unchanged (values pures ts env) _ _ (λ vs. h i vs inputs)

    rows_keep : (rows : DeviceRows) (env inputs vs : List Val) → Keeps (rows_traced pures calls rows env inputs vs) (rows_traced pures later rows env inputs vs)
    rows_keep no_device_rows env inputs vs = refl
    rows_keep (more_device_rows ps lets arms others) env inputs vs =
        keeps_or _ _ _ _
        (keeps_on (row_matched ps vs) (row_matched ps vs) _ _ (keeps_same (row_matched ps vs))
        (λ xs. keeps_on (tried (bound pures lets (env ++ xs))) (tried (bound pures lets (env ++ xs))) _ _ (keeps_same (tried (bound pures lets (env ++ xs)))) (λ inner. arms_keep arms inner inputs)))
        (rows_keep others env inputs vs)

    arms_keep : (arms : DeviceArms) (env inputs : List Val) → Keeps (arms_traced pures calls arms env inputs) (arms_traced pures later arms env inputs)
    arms_keep (device_body d) env inputs = keeps_tried _ _ (trace_grows d env inputs)
    arms_keep no_device_arms env inputs = refl
    arms_keep (more_device_arms g d others) env inputs =
        keeps_on (tried (value pures g env)) (tried (value pures g env)) (λ v. if_holds v (tried (traced pures calls d env inputs)) (arms_traced pures calls others env inputs) stuck)
        (λ v. if_holds v (tried (traced pures later d env inputs)) (arms_traced pures later others env inputs) stuck)
        (keeps_same (tried (value pures g env))) (λ v. holds_grows v _ _ _ _ (keeps_tried _ _ (trace_grows d env inputs)) (arms_keep others env inputs))

  pub layered_grows : (s : System ℕ ℕ) (inputs : List Val) → Grows (system_outputs (read_devices pures calls) s inputs) (system_outputs (read_devices pures later) s inputs)
  layered_grows s inputs = system_follows (read_devices pures calls) (read_devices pures later) s s
      (alike_same _ _ _ (λ i is. followed (calls i [] is) (later i [] is) (λ t. shown (length is) t.end t.outputs) (h i [] is)) (λ f v. grows_same (pures f (v ∷ []))) (λ f v w. grows_same (pures f (v ∷ w ∷ []))) s)
      inputs

module _ (pures : Calling) (devices : List Device) where
  pub call_grows : (further b i : ℕ) (vs inputs : List Val) → Grows (trace_within pures devices b i vs inputs) (trace_within pures devices (further + b) i vs inputs)
  unfolding trace_within
  call_grows further zero i vs inputs = tt
  call_grows further (suc b) i vs inputs =
      rw (more_suc b further) (unchanged (device_at i devices) _ _ (λ d. if_grows (nat_eq (length vs) (length d.params)) _ _
      (trace_grows pures (trace_within pures devices b) (trace_within pures devices (further + b)) (call_grows further b) d.body vs inputs)))
    where
      more_suc : (b further : ℕ) → further + suc b ≡ suc (further + b)
      more_suc b further = omega arith

pub outputs_grow : (p : LayeredProgram) (further b : ℕ) (inputs : List Val) → Grows (layered_within p b inputs) (layered_within p (further + b) inputs)
outputs_grow p further b inputs =
    layered_grows (calls_of value p.pures) (trace_within (calls_of value p.pures) p.devices b) (trace_within (calls_of value p.pures) p.devices (further + b)) (call_grows (calls_of value p.pures) p.devices further b) p.system inputs
