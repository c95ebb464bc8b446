-- What actions do: state actions over a list of states, and the trace of an action of a device over states and inputs. The monads are
-- reactive resumptions over layers of state over the identity.
--
-- Each state action, trace or evaluation on the way has a budget that is one less.
use Rattle.std.specs.Prelude.{ℕ, zero, suc, List, Option, Some, None}
use Rattle.rw_scope_rules.specs.declared.binding.Operation.TheVariants.{Return, Bind, Then, Get, Put, Lift, Signal, Extrude}
use Rattle.rw_scope_rules.specs.declared.binding.Bound.{Bound}
use Rattle.rw_tree.specs.Declarations.{Declaration}
use Rattle.rw_core.specs.Values.{Val}
use Rattle.rw_core.specs.Traces.{Trace, silent, signalled, and_on, without_state}
use Rattle.rw_core.specs.Options.{◌>>=◌}
use Rattle.rw_meaning.specs.Results.{Outcome, datum, action, Thunk, kept_call, known, Thunks, nothing, and_then, held}
use Rattle.rw_meaning.specs.Evaluation.{force, result_within}

-- an action's value and the states after it, over the states before it; `again` does the actions on the way
abbrev pub acted : (Thunk → Thunks → Option (Thunk × Thunks)) → Outcome → Thunks → Option (Thunk × Thunks)
acted again (action Return (and_then v nothing)) states = Some (v, states)
acted again (action Bind (and_then m (and_then k nothing))) states = do p ← again m states; again (kept_call k (and_then p.0 nothing)) p.1
acted again (action Then (and_then m (and_then k nothing))) states = do p ← again m states; again k p.1
acted again (action Get nothing) (and_then s states) = Some (s, and_then s states)
acted again (action Put (and_then new nothing)) (and_then s states) = Some (known (datum 0 nothing), and_then new states)
acted again (action Lift (and_then m nothing)) (and_then s states) = do p ← again m states; Some (p.0, and_then s p.1)
acted again _ _ = None

-- all states but the first
abbrev pub other_states : Thunks → Option Thunks
other_states nothing = None
other_states (and_then s states) = Some states

-- the trace of an action; `acting` does the state actions on the way, and `again` gives the traces
abbrev pub traced : (Thunk → Thunks → Option (Thunk × Thunks)) → (Thunk → Thunks → List Val → Option (Trace Thunk Thunks)) → Outcome → Thunks → List Val → Option (Trace Thunk Thunks)
traced acting again (action Signal (and_then v nothing)) states inputs = Some (signalled (λ i. known (held i)) v states inputs)
traced acting again (action Bind (and_then m (and_then k nothing))) states inputs =
    do t ← again m states inputs; and_on t.outputs t.end (λ v. again (kept_call k (and_then v nothing)))
traced acting again (action Then (and_then m (and_then k nothing))) states inputs = do t ← again m states inputs; and_on t.outputs t.end (λ v. again k)
traced acting again (action Return (and_then v nothing)) states inputs = Some (silent v states inputs)
traced acting again (action Lift (and_then m nothing)) states inputs = do p ← acting m states; Some (silent p.0 p.1 inputs)
traced acting again (action Extrude (and_then d (and_then s nothing))) states inputs = do t ← again d (and_then s states) inputs; without_state other_states t.outputs t.end
traced acting again _ _ _ = None

module _ (program : List (Declaration Bound)) where
  -- a state action within a budget
  unfoldable pub act_within : ℕ → Thunk → Thunks → Option (Thunk × Thunks)
  act_within zero m states = None
  act_within (suc budget) m states = do r ← result_within program budget (force m); acted (act_within budget) r states

  -- the trace of an action within a budget
  unfoldable pub trace_within : ℕ → Thunk → Thunks → List Val → Option (Trace Thunk Thunks)
  trace_within zero m states inputs = None
  trace_within (suc budget) m states inputs = do r ← result_within program budget (force m); traced (act_within budget) (trace_within budget) r states inputs
