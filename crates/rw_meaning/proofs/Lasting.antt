-- The outputs of a program within a budget are those within every greater one, and so it denotes one list at most.
use Rattle.std.proofs.Common.{◌≡◌, ℕ, zero, suc, ◌+◌, ◌-◌, List, length, Option, Some, None, refl, subst, ◌∙◌, arith}
use Rattle.rw_scope_rules.specs.declared.binding.Bound.{Bound}
use Rattle.rw_tree.specs.Declarations.{Declaration}
use Rattle.rw_core.specs.Values.{Val}
use Rattle.rw_core.specs.Options.{Grows}
use Rattle.rw_core.specs.Eventually.{Reaches}
use Rattle.rw_core.specs.Traces.{Trace, shown}
use Rattle.rw_core.specs.Systems.{system_outputs}
use Rattle.rw_core.proofs.Options.{grows_same, grows_on, grows_each}
use Rattle.rw_core.proofs.Eventually.{reached_once}
use Rattle.rw_core.proofs.Systems.{alike_same, system_follows}
use Rattle.rw_meaning.specs.Results.{Outcome, datum, waiting_for_more, action, Thunk, kept, Thunks, nothing, and_then}
use Rattle.rw_meaning.specs.Evaluation.{Task, force, result_within}
use Rattle.rw_meaning.specs.Trace.{act_within, trace_within}
use Rattle.rw_meaning.specs.Systems.{SourceSystem, start_of}
use Rattle.rw_meaning.specs.Outputs.{fields_as_data, as_data, data_within, device_outputs, reading_in, outputs_within, Denotes}
use Rattle.rw_meaning.proofs.Steps.{result_grows}
use Rattle.rw_meaning.proofs.Traces.{act_grows, trace_grows}

fields_grow : (f g : Thunk → Option Val) → ((t : Thunk) → Grows (f t) (g t)) → (ts : Thunks) → Grows (fields_as_data f ts) (fields_as_data g ts)
fields_grow f g h nothing = refl
fields_grow f g h (and_then t ts) = grows_on _ _ _ _ (h t) (λ v. grows_on _ _ _ _ (fields_grow f g h ts) (λ vs. refl))

as_data_grows : (f g : Thunk → Option Val) → ((t : Thunk) → Grows (f t) (g t)) → (r : Outcome) → Grows (as_data f r) (as_data g r)
as_data_grows f g h (datum place fields) = grows_on _ _ _ _ (fields_grow f g h fields) (λ vs. refl)
as_data_grows f g h (waiting_for_more k ts) = tt
as_data_grows f g h (action o ts) = tt

module _ (program : List (Declaration Bound)) where
  pub data_grows : (budget : ℕ) (t : Thunk) → Grows (data_within program budget t) (data_within program (suc budget) t)
  unfolding data_within
  data_grows zero t = tt
  data_grows (suc budget) t = grows_on _ _ _ _ (result_grows program budget (force t)) (as_data_grows (data_within program budget) (data_within program (suc budget)) (data_grows budget))

  module _ (budget : ℕ) where
    device_grows : (device : Thunk) (inputs : List Val) → Grows (device_outputs program budget device inputs) (device_outputs program (suc budget) device inputs)
    device_grows device inputs =
        grows_on _ _ _ _ (trace_grows program budget device nothing inputs)
        (λ t. grows_on _ _ _ _ (grows_each _ _ (data_grows budget) t.outputs) (λ outputs. grows_same (shown (length inputs) t.end outputs)))

    system_grows : (env : Thunks) (s : SourceSystem) (inputs : List Val) → Grows (system_outputs (reading_in program budget env) s inputs) (system_outputs (reading_in program (suc budget) env) s inputs)
    system_grows env s inputs =
        system_follows (reading_in program budget env) (reading_in program (suc budget) env) s s
        (alike_same _ _ _ (λ e is. device_grows (kept env e) is) (λ f v. data_grows budget _) (λ f v w. data_grows budget _) s) inputs

    pub outputs_grow : (inputs : List Val) → Grows (outputs_within program budget inputs) (outputs_within program (suc budget) inputs)
    outputs_grow inputs = grows_on _ _ _ _ (grows_same (start_of program)) (λ body. system_grows _ _ inputs)

-- what holds of one more holds of any more
grown : {A : Type 0} (x later : Option A) (r : A) → Grows x later → x ≡ Some r → later ≡ Some r
grown None later r h e = absurd (cc)
grown (Some x) later r h e = h ∙ e

-- and so a budget that is greater by any number keeps a result
pub lasts : {A : Type 0} (f : ℕ → Option A) → ((n : ℕ) → Grows (f n) (f (suc n))) → (further budget : ℕ) (r : A) → f budget ≡ Some r → f (further + budget) ≡ Some r
lasts f h zero budget r e = let k : 0 + budget ≡ budget = omega arith in rw k e
lasts f h (suc further) budget r e =
    let k : suc further + budget ≡ suc (further + budget) = omega arith in
    let d : f (suc (further + budget)) ≡ Some r = grown (f (further + budget)) (f (suc (further + budget))) r (h (further + budget)) (lasts f h further budget r e) in
    rw k d

pub result_lasts : (program : List (Declaration Bound)) (further budget : ℕ) (task : Task) (r : Outcome) → result_within program budget task ≡ Some r → result_within program (further + budget) task ≡ Some r
result_lasts program further budget task r e = lasts (λ n. result_within program n task) (λ n. result_grows program n task) further budget r e

pub act_lasts : (program : List (Declaration Bound)) (further budget : ℕ) (m : Thunk) (states : Thunks) (p : Thunk × Thunks) → act_within program budget m states ≡ Some p
    → act_within program (further + budget) m states ≡ Some p
act_lasts program further budget m states p e = lasts (λ n. act_within program n m states) (λ n. act_grows program n m states) further budget p e

pub trace_lasts : (program : List (Declaration Bound)) (further budget : ℕ) (m : Thunk) (states : Thunks) (inputs : List Val) (t : Trace Thunk Thunks) → trace_within program budget m states inputs ≡ Some t
    → trace_within program (further + budget) m states inputs ≡ Some t
trace_lasts program further budget m states inputs t e = lasts (λ n. trace_within program n m states inputs) (λ n. trace_grows program n m states inputs) further budget t e

pub outputs_lasting : (program : List (Declaration Bound)) (further budget : ℕ) (inputs outputs : List Val) → outputs_within program budget inputs ≡ Some outputs
    → outputs_within program (further + budget) inputs ≡ Some outputs
outputs_lasting program further budget inputs outputs e = lasts (λ n. outputs_within program n inputs) (λ n. outputs_grow program n inputs) further budget outputs e

-- what is had within a budget is reached
pub reached_at : {A : Type 0} (f : ℕ → Option A) → ((n : ℕ) → Grows (f n) (f (suc n))) → (budget : ℕ) (r : A) → f budget ≡ Some r → Reaches f r
reached_at f h budget r e = record { from = budget; holds = λ n k. let s : (n - budget) + budget ≡ n = omega arith in subst (λ z. f z ≡ Some r) s (lasts f h (n - budget) budget r e) }

pub outputs_denoted : (program : List (Declaration Bound)) (budget : ℕ) (inputs outputs : List Val) → outputs_within program budget inputs ≡ Some outputs → Denotes program inputs outputs
outputs_denoted program budget inputs outputs e = reached_at (λ n. outputs_within program n inputs) (λ n. outputs_grow program n inputs) budget outputs e

-- at one budget or another, the two lists meet
pub one_list : (program : List (Declaration Bound)) (inputs first second : List Val) → Denotes program inputs first → Denotes program inputs second → first ≡ second
one_list program inputs first second a b = reached_once (λ n. outputs_within program n inputs) first second a b
