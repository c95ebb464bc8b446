-- What tasks, actions and devices come to, whatever the budget. Later laws are stated on these words alone; the definitions with budgets stand
-- beneath them.
use Rattle.std.specs.Prelude.{List, [], ◌∷◌}
use Rattle.rw_scope_rules.specs.declared.binding.Bound.{Bound}
use Rattle.rw_tree.specs.Declarations.{Declaration}
use Rattle.rw_core.specs.Values.{Val, Vals, val, none, more}
use Rattle.rw_core.specs.Eventually.{Reaches}
use Rattle.rw_core.specs.Traces.{Trace}
use Rattle.rw_core.specs.Systems.{Reading, System, FollowsInTime}
use Rattle.rw_meaning.specs.Results.{Outcome, datum, Thunk, Thunks, nothing, and_then}
use Rattle.rw_meaning.specs.Evaluation.{Task, force, step, result_within}
use Rattle.rw_meaning.specs.Trace.{acted, traced, act_within, trace_within}
use Rattle.rw_meaning.specs.Systems.{SourceSystem}
use Rattle.rw_meaning.specs.Outputs.{device_outputs, reading_in}

module _ (program : List (Declaration Bound)) where
  -- == Evaluation ==

  -- a task gives this result
  abbrev pub Gives : Task → Outcome → Type 0
  Gives task r = Reaches (λ n. result_within program n task) r

  -- one step of a task, over what the tasks on its way give, gives it
  abbrev pub StepGives : Task → Outcome → Type 0
  StepGives task r = Reaches (λ n. step program (result_within program n) task) r

  -- what is kept stands for a value: it gives its constructor, with fields that stand for the value's
  abbrev mutual
    pub Stands : Thunk → Val → Type 0
    Stands t (val place fields) = (ts : Thunks) × Gives (force t) (datum place ts) × FieldsStand ts fields

    pub FieldsStand : Thunks → Vals → Type 0
    FieldsStand nothing none = Unit {0}
    FieldsStand (and_then t ts) (more v vs) = Stands t v × FieldsStand ts vs
    FieldsStand _ _ = ⊥

  -- arguments or states that stand for a list of values
  abbrev pub AllStand : Thunks → List Val → Type 0
  AllStand nothing [] = Unit {0}
  AllStand (and_then t ts) (v ∷ vs) = Stands t v × AllStand ts vs
  AllStand _ _ = ⊥

  -- outputs that stand for a list of values
  abbrev pub EachStands : List Thunk → List Val → Type 0
  EachStands [] [] = Unit {0}
  EachStands (t ∷ ts) (v ∷ vs) = Stands t v × EachStands ts vs
  EachStands _ _ = ⊥

  -- == Actions ==

  -- a state action over the states before it gives a value and the states after it
  abbrev pub Acts : Thunk → Thunks → Thunk → Thunks → Type 0
  Acts m before v after = Reaches (λ n. act_within program n m before) (v, after)

  -- so does a result, as a state action
  abbrev pub ActsAs : Outcome → Thunks → Thunk → Thunks → Type 0
  ActsAs r before v after = Reaches (λ n. acted (act_within program n) r before) (v, after)

  -- a device's action over states and inputs has this trace
  abbrev pub Traces : Thunk → Thunks → List Val → Trace Thunk Thunks → Type 0
  Traces m states inputs t = Reaches (λ n. trace_within program n m states inputs) t

  -- so has a result, as the action of a device
  abbrev pub TracesAs : Outcome → Thunks → List Val → Trace Thunk Thunks → Type 0
  TracesAs r states inputs t = Reaches (λ n. traced (act_within program n) (trace_within program n) r states inputs) t

  -- == Devices ==

  -- a device shows these outputs on these inputs
  abbrev pub Shows : Thunk → List Val → List Val → Type 0
  Shows device inputs outputs = Reaches (λ n. device_outputs program n device inputs) outputs

  -- what a reading of some system gives of its leaves and functions, those of a system of expressions in this environment give
  abbrev pub IsRealised : {L F : Type 0} → Reading L F → Thunks → System L F → SourceSystem → Type 0
  IsRealised first env s t = FollowsInTime first (λ n. reading_in program n env) s t
