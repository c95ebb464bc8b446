-- What actions do keeps its results where what is done on the way keeps its own.
use Rattle.std.proofs.Common.{ℕ, zero, suc, List, Option, refl}
use Rattle.rw_scope_rules.specs.declared.binding.Operation.TheVariants.{Return, Bind, Then, Get, Put, Lift, Signal, Extrude, Par, Refold}
use Rattle.rw_scope_rules.specs.declared.binding.Bound.{Bound}
use Rattle.rw_tree.specs.Declarations.{Declaration}
use Rattle.rw_core.specs.Values.{Val}
use Rattle.rw_meaning.specs.Results.{Outcome, datum, waiting_for_more, action, Thunk, kept_call, Thunks, nothing, and_then}
use Rattle.rw_meaning.specs.Evaluation.{force}
use Rattle.rw_core.specs.Options.{Grows}
use Rattle.rw_core.specs.Traces.{End, waits, finished, Trace, and_on, without_state}
use Rattle.rw_core.proofs.Options.{grows_same, grows_on}
use Rattle.rw_meaning.specs.Trace.{other_states, acted, traced, act_within, trace_within}
use Rattle.rw_meaning.proofs.Steps.{result_grows}

module _ (again later : Thunk → Thunks → Option (Thunk × Thunks)) (grows : (m : Thunk) (states : Thunks) → Grows (again m states) (later m states)) where
  pub acted_grows : (r : Outcome) (states : Thunks) → Grows (acted again r states) (acted later r states)
  acted_grows (datum place fields) states = tt
  acted_grows (waiting_for_more f ts) states = tt
  acted_grows (action Return nothing) states = tt
  acted_grows (action Return (and_then v nothing)) states = refl
  acted_grows (action Return (and_then v (and_then w ts))) states = tt
  acted_grows (action Bind nothing) states = tt
  acted_grows (action Bind (and_then m nothing)) states = tt
  acted_grows (action Bind (and_then m (and_then k nothing))) states = grows_on _ _ _ _ (grows m states) (λ p. grows (kept_call k (and_then p.0 nothing)) p.1)
  acted_grows (action Bind (and_then m (and_then k (and_then x ts)))) states = tt
  acted_grows (action Then nothing) states = tt
  acted_grows (action Then (and_then m nothing)) states = tt
  acted_grows (action Then (and_then m (and_then k nothing))) states = grows_on _ _ _ _ (grows m states) (λ p. grows k p.1)
  acted_grows (action Then (and_then m (and_then k (and_then x ts)))) states = tt
  acted_grows (action Get nothing) nothing = tt
  acted_grows (action Get nothing) (and_then s states) = refl
  acted_grows (action Get (and_then v ts)) states = tt
  acted_grows (action Put nothing) states = tt
  acted_grows (action Put (and_then v nothing)) nothing = tt
  acted_grows (action Put (and_then v nothing)) (and_then s states) = refl
  acted_grows (action Put (and_then v (and_then w ts))) states = tt
  acted_grows (action Lift nothing) states = tt
  acted_grows (action Lift (and_then m nothing)) nothing = tt
  acted_grows (action Lift (and_then m nothing)) (and_then s states) = grows_on _ _ _ _ (grows m states) (λ p. refl)
  acted_grows (action Lift (and_then m (and_then w ts))) states = tt
  acted_grows (action Signal ts) states = tt
  acted_grows (action Extrude ts) states = tt
  acted_grows (action Par ts) states = tt
  acted_grows (action Refold ts) states = tt

onward_grows : (outputs : List Thunk) (end : End Thunk Thunks) (next other : Thunk → Thunks → List Val → Option (Trace Thunk Thunks)) → ((v : Thunk) (states : Thunks) (inputs : List Val) → Grows (next v states inputs) (other v states inputs))
    → Grows (and_on outputs end next) (and_on outputs end other)
onward_grows outputs waits next other h = refl
onward_grows outputs (finished v states inputs) next other h = grows_on _ _ _ _ (h v states inputs) (λ t. refl)

module _ (acting acting_later : Thunk → Thunks → Option (Thunk × Thunks)) (acts : (m : Thunk) (states : Thunks) → Grows (acting m states) (acting_later m states))
    (again later : Thunk → Thunks → List Val → Option (Trace Thunk Thunks)) (grows : (m : Thunk) (states : Thunks) (inputs : List Val) → Grows (again m states inputs) (later m states inputs)) where
  pub traced_grows : (r : Outcome) (states : Thunks) (inputs : List Val) → Grows (traced acting again r states inputs) (traced acting_later later r states inputs)
  traced_grows (datum place fields) states inputs = tt
  traced_grows (waiting_for_more f ts) states inputs = tt
  traced_grows (action Signal nothing) states inputs = tt
  traced_grows (action Signal (and_then v nothing)) states inputs = refl
  traced_grows (action Signal (and_then v (and_then w ts))) states inputs = tt
  traced_grows (action Bind nothing) states inputs = tt
  traced_grows (action Bind (and_then m nothing)) states inputs = tt
  traced_grows (action Bind (and_then m (and_then k nothing))) states inputs =
      grows_on _ _ _ _ (grows m states inputs) (λ t. onward_grows t.outputs t.end _ _ (λ v. grows (kept_call k (and_then v nothing))))
  traced_grows (action Bind (and_then m (and_then k (and_then x ts)))) states inputs = tt
  traced_grows (action Then nothing) states inputs = tt
  traced_grows (action Then (and_then m nothing)) states inputs = tt
  traced_grows (action Then (and_then m (and_then k nothing))) states inputs = grows_on _ _ _ _ (grows m states inputs) (λ t. onward_grows t.outputs t.end _ _ (λ v. grows k))
  traced_grows (action Then (and_then m (and_then k (and_then x ts)))) states inputs = tt
  traced_grows (action Return nothing) states inputs = tt
  traced_grows (action Return (and_then v nothing)) states inputs = refl
  traced_grows (action Return (and_then v (and_then w ts))) states inputs = tt
  traced_grows (action Lift nothing) states inputs = tt
  traced_grows (action Lift (and_then m nothing)) states inputs = grows_on _ _ _ _ (acts m states) (λ p. refl)
  traced_grows (action Lift (and_then m (and_then w ts))) states inputs = tt
  traced_grows (action Extrude nothing) states inputs = tt
  traced_grows (action Extrude (and_then d nothing)) states inputs = tt
  traced_grows (action Extrude (and_then d (and_then s nothing))) states inputs = grows_on _ _ _ _ (grows d (and_then s states) inputs) (λ t. grows_same (without_state other_states t.outputs t.end))
  traced_grows (action Extrude (and_then d (and_then s (and_then x ts)))) states inputs = tt
  traced_grows (action Get ts) states inputs = tt
  traced_grows (action Put ts) states inputs = tt
  traced_grows (action Par ts) states inputs = tt
  traced_grows (action Refold ts) states inputs = tt

module _ (program : List (Declaration Bound)) where
  pub act_grows : (budget : ℕ) (m : Thunk) (states : Thunks) → Grows (act_within program budget m states) (act_within program (suc budget) m states)
  unfolding act_within
  act_grows zero m states = tt
  act_grows (suc budget) m states =
      grows_on _ _ _ _ (result_grows program budget (force m)) (λ r. acted_grows (act_within program budget) (act_within program (suc budget)) (act_grows budget) r states)

  pub trace_grows : (budget : ℕ) (m : Thunk) (states : Thunks) (inputs : List Val) → Grows (trace_within program budget m states inputs) (trace_within program (suc budget) m states inputs)
  unfolding trace_within
  trace_grows zero m states inputs = tt
  trace_grows (suc budget) m states inputs =
      grows_on _ _ _ _ (result_grows program budget (force m))
      (λ r. traced_grows (act_within program budget) (act_within program (suc budget)) (act_grows budget) (trace_within program budget) (trace_within program (suc budget)) (trace_grows budget) r states inputs)
