-- The outputs of a device, and which outputs a program denotes.
use Rattle.std.specs.Prelude.{ℕ, zero, suc, List, length, Option, Some, None}
use Rattle.rw_scope_rules.specs.declared.binding.Bound.{Bound}
use Rattle.rw_tree.specs.Trees.{Expression}
use Rattle.rw_tree.specs.Declarations.{Declaration}
use Rattle.rw_core.specs.Values.{Val, Vals, val, none, more}
use Rattle.rw_core.specs.Options.{◌>>=◌, each}
use Rattle.rw_core.specs.Eventually.{Reaches}
use Rattle.rw_core.specs.Traces.{shown}
use Rattle.rw_core.specs.Systems.{Reading, system_outputs}
use Rattle.rw_meaning.specs.Results.{Outcome, datum, Thunk, kept, kept_call, known, Thunks, nothing, and_then, held}
use Rattle.rw_meaning.specs.Evaluation.{force, result_within, inside_names}
use Rattle.rw_meaning.specs.Trace.{trace_within}
use Rattle.rw_meaning.specs.Systems.{binding_of, system_of, start_of}

-- == A value with all that is in it ==

abbrev pub fields_as_data : (Thunk → Option Val) → Thunks → Option Vals
fields_as_data as_data nothing = Some none
fields_as_data as_data (and_then t ts) = do v ← as_data t; vs ← fields_as_data as_data ts; Some (more v vs)

-- a result as a value; `again` evaluates its fields
abbrev pub as_data : (Thunk → Option Val) → Outcome → Option Val
as_data again (datum place fields) = do vs ← fields_as_data again fields; Some (val place vs)
as_data again _ = None

-- what is kept as a value, within a budget
unfoldable pub data_within : List (Declaration Bound) → ℕ → Thunk → Option Val
data_within program zero t = None
data_within program (suc budget) t = do r ← result_within program budget (force t); as_data (data_within program budget) r

-- == Within a budget ==

module _ (program : List (Declaration Bound)) (budget : ℕ) where
  -- the outputs of a device: one after reset, and one after each input
  abbrev pub device_outputs : Thunk → List Val → Option (List Val)
  device_outputs device inputs = do
    t ← trace_within program budget device nothing inputs
    outputs ← each (data_within program budget) t.outputs
    shown (length inputs) t.end outputs

  -- a function of values applied to values
  abbrev pub value_of_call : Thunk → Thunks → Option Val
  value_of_call f arguments = data_within program budget (kept_call f arguments)

  abbrev pub value_of_one : Thunk → Val → Option Val
  value_of_one f v = value_of_call f (and_then (known (held v)) nothing)

  abbrev pub value_of_two : Thunk → Val → Val → Option Val
  value_of_two f v w = value_of_call f (and_then (known (held v)) (and_then (known (held w)) nothing))

  -- how the expressions of a system are read that stand in an environment
  abbrev pub reading_in : Thunks → Reading (Expression Bound) (Expression Bound)
  reading_in env = record { outputs = λ e. device_outputs (kept env e); one = λ f. value_of_one (kept env f); two = λ g. value_of_two (kept env g) }

  -- the outputs of a program: its body stands inside what is bound after its `where`
  abbrev pub outputs_within : List Val → Option (List Val)
  outputs_within inputs = do
    body ← start_of program
    system_outputs (reading_in (inside_names nothing body.wheres)) (system_of binding_of body.expression) inputs

-- == What a program denotes ==

-- from some budget on, these are the outputs on these inputs
abbrev pub Denotes : List (Declaration Bound) → List Val → List Val → Type 0
Denotes program inputs outputs = Reaches (λ n. outputs_within program n inputs) outputs
