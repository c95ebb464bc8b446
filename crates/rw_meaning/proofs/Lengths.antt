-- A program shows one output more than it was given inputs.
use Rattle.std.proofs.Common.{◌≡◌, ℕ, zero, suc, List, length, Option, Some, subst, arith}
use Rattle.rw_scope_rules.specs.declared.binding.Operation.TheVariants.{Return, Bind, Then, Get, Put, Lift, Signal, Extrude, Par, Refold}
use Rattle.rw_scope_rules.specs.declared.binding.Bound.{Bound}
use Rattle.rw_tree.specs.Declarations.{Declaration}
use Rattle.rw_core.specs.Values.{Val}
use Rattle.rw_core.specs.Options.{◌>>=◌, each}
use Rattle.rw_core.specs.Traces.{Trace, silent, signalled, and_on, Counts}
use Rattle.rw_core.proofs.Options.{bind_some, length-each}
use Rattle.rw_core.proofs.Counts.{counts_silent, counts_signalled, counts_and_on, counts_without_state, length-shown}
use Rattle.rw_core.proofs.Systems.{each_leaf, length-system_outputs}
use Rattle.rw_meaning.specs.Results.{Outcome, datum, waiting_for_more, action, Thunk, kept, kept_call, known, Thunks, nothing, and_then, held}
use Rattle.rw_meaning.specs.Evaluation.{force, result_within, inside_names}
use Rattle.rw_meaning.specs.Trace.{other_states, traced, act_within, trace_within}
use Rattle.rw_meaning.specs.Systems.{binding_of, system_of, start_of}
use Rattle.rw_meaning.specs.Outputs.{data_within, device_outputs, reading_in, outputs_within, Denotes}

-- a trace over these inputs counts its outputs
abbrev CountsOver : List Val → Trace Thunk Thunks → Type 0
CountsOver inputs t = Counts (length inputs) t.outputs t.end

this_trace : (inputs : List Val) (t u : Trace Thunk Thunks) → CountsOver inputs t → Some t ≡ Some u → CountsOver inputs u
this_trace inputs t u h e = let k : t ≡ u = cc in subst (CountsOver inputs) k h

module _ (acting : Thunk → Thunks → Option (Thunk × Thunks)) (again : Thunk → Thunks → List Val → Option (Trace Thunk Thunks))
    (counts : (m : Thunk) (states : Thunks) (inputs : List Val) (t : Trace Thunk Thunks) → again m states inputs ≡ Some t → CountsOver inputs t) where
  goes_on : (m : Thunk) (states : Thunks) (inputs : List Val) (k : Thunk → Thunk) (u : Trace Thunk Thunks) → (again m states inputs >>= λ t. and_on t.outputs t.end (λ v. again (k v))) ≡ Some u → CountsOver inputs u
  goes_on m states inputs k u e =
      let t = bind_some (again m states inputs) _ u e in
      counts_and_on (length inputs) t.0.outputs t.0.end (λ v. again (k v)) u (counts m states inputs t.0 t.1) (λ v ss left w h. counts (k v) ss left w h) t.2

  pub traced_counts : (r : Outcome) (states : Thunks) (inputs : List Val) (u : Trace Thunk Thunks) → traced acting again r states inputs ≡ Some u → CountsOver inputs u
  traced_counts (datum place fields) states inputs u e = absurd (cc)
  traced_counts (waiting_for_more f ts) states inputs u e = absurd (cc)
  traced_counts (action Signal nothing) states inputs u e = absurd (cc)
  traced_counts (action Signal (and_then v nothing)) states inputs u e = this_trace inputs (signalled (λ i. known (held i)) v states inputs) u (counts_signalled (λ i. known (held i)) v states inputs) e
  traced_counts (action Signal (and_then v (and_then w ts))) states inputs u e = absurd (cc)
  traced_counts (action Bind nothing) states inputs u e = absurd (cc)
  traced_counts (action Bind (and_then m nothing)) states inputs u e = absurd (cc)
  traced_counts (action Bind (and_then m (and_then k nothing))) states inputs u e = goes_on m states inputs (λ v. kept_call k (and_then v nothing)) u e
  traced_counts (action Bind (and_then m (and_then k (and_then x ts)))) states inputs u e = absurd (cc)
  traced_counts (action Then nothing) states inputs u e = absurd (cc)
  traced_counts (action Then (and_then m nothing)) states inputs u e = absurd (cc)
  traced_counts (action Then (and_then m (and_then k nothing))) states inputs u e = goes_on m states inputs (λ v. k) u e
  traced_counts (action Then (and_then m (and_then k (and_then x ts)))) states inputs u e = absurd (cc)
  traced_counts (action Return nothing) states inputs u e = absurd (cc)
  traced_counts (action Return (and_then v nothing)) states inputs u e = this_trace inputs (silent v states inputs) u (counts_silent v states inputs) e
  traced_counts (action Return (and_then v (and_then w ts))) states inputs u e = absurd (cc)
  traced_counts (action Lift nothing) states inputs u e = absurd (cc)
  traced_counts (action Lift (and_then m nothing)) states inputs u e =
      let p = bind_some (acting m states) (λ p. Some (silent p.0 p.1 inputs)) u e in this_trace inputs (silent p.0.0 p.0.1 inputs) u (counts_silent p.0.0 p.0.1 inputs) p.2
  traced_counts (action Lift (and_then m (and_then w ts))) states inputs u e = absurd (cc)
  traced_counts (action Extrude nothing) states inputs u e = absurd (cc)
  traced_counts (action Extrude (and_then d nothing)) states inputs u e = absurd (cc)
  traced_counts (action Extrude (and_then d (and_then s nothing))) states inputs u e =
      let t = bind_some (again d (and_then s states) inputs) _ u e in
      counts_without_state (length inputs) other_states t.0.outputs t.0.end u (counts d (and_then s states) inputs t.0 t.1) t.2
  traced_counts (action Extrude (and_then d (and_then s (and_then x ts)))) states inputs u e = absurd (cc)
  traced_counts (action Get ts) states inputs u e = absurd (cc)
  traced_counts (action Put ts) states inputs u e = absurd (cc)
  traced_counts (action Par ts) states inputs u e = absurd (cc)
  traced_counts (action Refold ts) states inputs u e = absurd (cc)

module _ (program : List (Declaration Bound)) where
  pub trace_counts : (budget : ℕ) (m : Thunk) (states : Thunks) (inputs : List Val) (t : Trace Thunk Thunks) → trace_within program budget m states inputs ≡ Some t → CountsOver inputs t
  unfolding trace_within
  trace_counts zero m states inputs t e = absurd (cc)
  trace_counts (suc budget) m states inputs t e =
      let r = bind_some (result_within program budget (force m)) _ t e in
      traced_counts (act_within program budget) (trace_within program budget) (trace_counts budget) r.0 states inputs t r.2

  module _ (budget : ℕ) where
    length-device_outputs : (device : Thunk) (inputs outputs : List Val) → device_outputs program budget device inputs ≡ Some outputs → length outputs ≡ suc (length inputs)
    length-device_outputs device inputs outputs e =
        let t = bind_some (trace_within program budget device nothing inputs) _ outputs e in
        let read = bind_some (each (data_within program budget) t.0.outputs) _ outputs t.2 in
        length-shown (length inputs) t.0.outputs t.0.end read.0 outputs (trace_counts budget device nothing inputs t.0 t.1) (length-each (data_within program budget) t.0.outputs read.0 read.1) read.2

    length-outputs_within : (inputs outputs : List Val) → outputs_within program budget inputs ≡ Some outputs → length outputs ≡ suc (length inputs)
    length-outputs_within inputs outputs e =
        let body = bind_some (start_of program) _ outputs e in
        let env = inside_names nothing body.0.wheres in
        let s = system_of binding_of body.0.expression in
        length-system_outputs (reading_in program budget env) s (each_leaf _ (λ l is os h. length-device_outputs (kept env l) is os h) s) inputs outputs body.2

-- what a program denotes has one output more than inputs
pub length-denoted : (program : List (Declaration Bound)) (inputs outputs : List Val) → Denotes program inputs outputs → length outputs ≡ suc (length inputs)
length-denoted program inputs outputs d = length-outputs_within program d.from inputs outputs (d.holds d.from (omega arith))
