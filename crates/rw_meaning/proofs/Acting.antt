-- What an action does, its result does; what stands for a value is read as it; and what a device shows.
use Rattle.std.proofs.Common.{◌≡◌, ℕ, zero, suc, List, [], ◌∷◌, length, Option, Some, refl, arith, subst}
use Rattle.rw_scope_rules.specs.declared.binding.Bound.{Bound}
use Rattle.rw_tree.specs.Declarations.{Declaration}
use Rattle.rw_core.specs.Values.{Val, Vals, val, none, more}
use Rattle.rw_core.specs.Options.{◌>>=◌, each}
use Rattle.rw_core.specs.Eventually.{Reaches}
use Rattle.rw_core.specs.Traces.{Trace, shown}
use Rattle.rw_core.specs.Systems.{System, Reading, system_outputs}
use Rattle.rw_core.proofs.Options.{bind_some}
use Rattle.rw_core.proofs.Eventually.{always, mapped, mapped_two, later, sooner, if_reached}
use Rattle.rw_core.proofs.Systems.{system_follows_in_time}
use Rattle.rw_meaning.specs.Results.{Outcome, datum, waiting_for_more, action, Thunk, known, Thunks, nothing, and_then, held, held_fields}
use Rattle.rw_meaning.specs.Evaluation.{force, result_within, inside_names}
use Rattle.rw_meaning.specs.Trace.{acted, traced, act_within, trace_within}
use Rattle.rw_meaning.specs.Systems.{binding_of, Body, system_of, start_of}
use Rattle.rw_meaning.specs.Outputs.{fields_as_data, as_data, data_within, device_outputs, reading_in, Denotes}
use Rattle.rw_meaning.specs.Steps.{Gives, Stands, FieldsStand, EachStands, Acts, ActsAs, Traces, TracesAs, Shows, IsRealised}
use Rattle.rw_meaning.proofs.Applying.{gives_step, gives_within}

module _ (program : List (Declaration Bound)) where
  -- == Actions ==

  act_goes : (n : ℕ) (m : Thunk) (ss : Thunks) (r : Outcome) (p : Thunk × Thunks) → result_within program n (force m) ≡ Some r → acted (act_within program n) r ss ≡ Some p → act_within program (suc n) m ss ≡ Some p
  unfolding act_within
  act_goes n m ss r p e h = rw e h

  trace_goes : (n : ℕ) (m : Thunk) (ss : Thunks) (inputs : List Val) (r : Outcome) (t : Trace Thunk Thunks) → result_within program n (force m) ≡ Some r → traced (act_within program n) (trace_within program n) r ss inputs ≡ Some t
      → trace_within program (suc n) m ss inputs ≡ Some t
  unfolding trace_within
  trace_goes n m ss inputs r t e h = rw e h

  pub acts : (m : Thunk) (before : Thunks) (r : Outcome) (v : Thunk) (after : Thunks) → Gives program (force m) r → ActsAs program r before v after → Acts program m before v after
  acts m before r v after g h = later (λ n. act_within program n m before ≡ Some (v, after)) (mapped_two (λ n a b. act_goes n m before r (v, after) a b) g h)

  pub traces : (m : Thunk) (states : Thunks) (inputs : List Val) (r : Outcome) (t : Trace Thunk Thunks) → Gives program (force m) r → TracesAs program r states inputs t → Traces program m states inputs t
  traces m states inputs r t g h = later (λ n. trace_within program n m states inputs ≡ Some t) (mapped_two (λ n a b. trace_goes n m states inputs r t a b) g h)

  acted_same : (n : ℕ) (m : Thunk) (before : Thunks) (r : Outcome) (p : Thunk × Thunks) → result_within program n (force m) ≡ Some r → act_within program (suc n) m before ≡ Some p → acted (act_within program n) r before ≡ Some p
  unfolding act_within
  acted_same n m before r p e h = rw e at h

  traced_same : (n : ℕ) (m : Thunk) (states : Thunks) (inputs : List Val) (r : Outcome) (t : Trace Thunk Thunks) → result_within program n (force m) ≡ Some r → trace_within program (suc n) m states inputs ≡ Some t
      → traced (act_within program n) (trace_within program n) r states inputs ≡ Some t
  unfolding trace_within
  traced_same n m states inputs r t e h = rw e at h

  act_had : (n : ℕ) (m : Thunk) (before : Thunks) (p : Thunk × Thunks) → act_within program (suc n) m before ≡ Some p → (r : Outcome) × (result_within program n (force m) ≡ Some r)
  unfolding act_within
  act_had n m before p e = let r = bind_some (result_within program n (force m)) _ p e in (r.0, r.1)

  trace_had : (n : ℕ) (m : Thunk) (states : Thunks) (inputs : List Val) (t : Trace Thunk Thunks) → trace_within program (suc n) m states inputs ≡ Some t → (r : Outcome) × (result_within program n (force m) ≡ Some r)
  unfolding trace_within
  trace_had n m states inputs t e = let r = bind_some (result_within program n (force m)) _ t e in (r.0, r.1)

  -- and the other way
  pub acts_by : (m : Thunk) (before : Thunks) (v : Thunk) (after : Thunks) → Acts program m before v after → (r : Outcome) × Gives program (force m) r × ActsAs program r before v after
  acts_by m before v after h =
      let r = act_had h.from m before (v, after) (h.holds (suc h.from) (omega arith)) in
      let g : Gives program (force m) r.0 = gives_within program h.from (force m) r.0 r.1 in
      (r.0, g, mapped_two (λ n a b. acted_same n m before r.0 (v, after) a b) g (sooner (λ n. act_within program n m before ≡ Some (v, after)) h))

  pub traces_by : (m : Thunk) (states : Thunks) (inputs : List Val) (t : Trace Thunk Thunks) → Traces program m states inputs t → (r : Outcome) × Gives program (force m) r × TracesAs program r states inputs t
  traces_by m states inputs t h =
      let r = trace_had h.from m states inputs t (h.holds (suc h.from) (omega arith)) in
      let g : Gives program (force m) r.0 = gives_within program h.from (force m) r.0 r.1 in
      (r.0, g, mapped_two (λ n a b. traced_same n m states inputs r.0 t a b) g (sooner (λ n. trace_within program n m states inputs ≡ Some t) h))

  -- == Values ==

  goes_on : (x : Option Outcome) (place : ℕ) (ts : Thunks) (again : Thunk → Option Val) (vs : Vals) → x ≡ Some (datum place ts) → fields_as_data again ts ≡ Some vs → (x >>= as_data again) ≡ Some (val place vs)
  goes_on x place ts again vs e h = rw (e, h)

  data_goes : (n : ℕ) (t : Thunk) (place : ℕ) (ts : Thunks) (vs : Vals) → result_within program n (force t) ≡ Some (datum place ts) → fields_as_data (data_within program n) ts ≡ Some vs → data_within program (suc n) t ≡ Some (val place vs)
  unfolding data_within
  data_goes n t place ts vs e h = goes_on _ place ts (data_within program n) vs e h

  more_fields : (x : Option Val) (y : Option Vals) (v : Val) (vs : Vals) → x ≡ Some v → y ≡ Some vs → (x >>= λ v. y >>= λ vs. Some (more v vs)) ≡ Some (more v vs)
  more_fields x y v vs e h = rw (e, h)

  mutual
    pub as_a_value : (v : Val) (t : Thunk) → Stands program t v → Reaches (λ n. data_within program n t) v
    as_a_value (val place fields) t h = later (λ n. data_within program n t ≡ Some (val place fields)) (mapped_two (λ n a b. data_goes n t place h.0 fields a b) h.1 (as_fields fields h.0 h.2))

    as_fields : (vs : Vals) (ts : Thunks) → FieldsStand program ts vs → Reaches (λ n. fields_as_data (data_within program n) ts) vs
    as_fields none nothing h = always (λ n. refl)
    as_fields none (and_then t ts) h = absurd h
    as_fields (more v vs) nothing h = absurd h
    as_fields (more v vs) (and_then t ts) h = mapped_two (λ n a b. more_fields _ _ v vs a b) (as_a_value v t h.0) (as_fields vs ts h.1)

  -- and the other way
  fields_read : (n : ℕ) → ((v : Val) (t : Thunk) → data_within program n t ≡ Some v → Stands program t v) → (ts : Thunks) (vs : Vals) → fields_as_data (data_within program n) ts ≡ Some vs → FieldsStand program ts vs
  fields_read n ih nothing vs e = let k : none ≡ vs = cc in subst (FieldsStand program nothing) k tt
  fields_read n ih (and_then t ts) vs e =
      let v = bind_some (data_within program n t) _ vs e in
      let rest = bind_some (fields_as_data (data_within program n) ts) _ vs v.2 in
      let k : more v.0 rest.0 ≡ vs = cc in
      subst (FieldsStand program (and_then t ts)) k (ih v.0 t v.1, fields_read n ih ts rest.0 rest.1)

  datum_read : (n : ℕ) → ((v : Val) (t : Thunk) → data_within program n t ≡ Some v → Stands program t v) → (t : Thunk) (r : Outcome) (v : Val) → result_within program n (force t) ≡ Some r
      → as_data (data_within program n) r ≡ Some v → Stands program t v
  datum_read n ih t (datum place ts) v g e =
      let vs = bind_some (fields_as_data (data_within program n) ts) _ v e in
      let k : val place vs.0 ≡ v = cc in
      subst (Stands program t) k (ts, gives_within program n (force t) (datum place ts) g, fields_read n ih ts vs.0 vs.1)
  datum_read n ih t (waiting_for_more f ts) v g e = absurd (cc)
  datum_read n ih t (action o ts) v g e = absurd (cc)

  pub read_stands : (budget : ℕ) (v : Val) (t : Thunk) → data_within program budget t ≡ Some v → Stands program t v
  unfolding data_within
  read_stands zero v t e = absurd (cc)
  read_stands (suc n) v t e =
      let r = bind_some (result_within program n (force t)) (as_data (data_within program n)) v e in datum_read n (read_stands n) t r.0 v r.1 r.2

  -- a value stands for itself
  mutual
    pub held_stands : (v : Val) → Stands program (known (held v)) v
    held_stands (val place fields) = (held_fields fields, gives_step program _ _ (always (λ n. refl)), fields_held fields)

    fields_held : (vs : Vals) → FieldsStand program (held_fields vs) vs
    fields_held none = tt
    fields_held (more v vs) = (held_stands v, fields_held vs)

  -- == Devices ==

  more_each : (x : Option Val) (y : Option (List Val)) (v : Val) (vs : List Val) → x ≡ Some v → y ≡ Some vs → (x >>= λ v. y >>= λ vs. Some (v ∷ vs)) ≡ Some (v ∷ vs)
  more_each x y v vs e h = rw (e, h)

  as_values : (ts : List Thunk) (vs : List Val) → EachStands program ts vs → Reaches (λ n. each (data_within program n) ts) vs
  as_values [] [] h = always (λ n. refl)
  as_values [] (v ∷ vs) h = absurd h
  as_values (t ∷ ts) [] h = absurd h
  as_values (t ∷ ts) (v ∷ vs) h = mapped_two (λ n a b. more_each _ _ v vs a b) (as_a_value v t h.0) (as_values ts vs h.1)

  shown_goes : (n : ℕ) (m : Thunk) (inputs outputs made : List Val) (t : Trace Thunk Thunks) → trace_within program n m nothing inputs ≡ Some t → each (data_within program n) t.outputs ≡ Some outputs → shown (length inputs) t.end outputs ≡ Some made
      → device_outputs program n m inputs ≡ Some made
  shown_goes n m inputs outputs made t e g h = rw (e, g) h

  pub shows : (device : Thunk) (inputs outputs made : List Val) (t : Trace Thunk Thunks) → Traces program device nothing inputs t → EachStands program t.outputs outputs → shown (length inputs) t.end outputs ≡ Some made
      → Shows program device inputs made
  shows device inputs outputs made t h s e = mapped_two (λ n a b. shown_goes n device inputs outputs made t a b e) h (as_values t.outputs outputs s)

  -- == Programs ==

  started : {B : Type 0} (x : Option (Body Bound)) (f : Body Bound → Option B) (start : Body Bound) (b : B) → x ≡ Some start → f start ≡ Some b → (x >>= f) ≡ Some b
  started x f start b e h = rw e h

  pub realised : {L F : Type 0} (first : Reading L F) (s : System L F) (body : Body Bound) → start_of program ≡ Some body → IsRealised program first (inside_names nothing body.wheres) s (system_of binding_of body.expression)
      → (inputs outputs : List Val) → system_outputs first s inputs ≡ Some outputs → Denotes program inputs outputs
  realised first s body found h inputs outputs e =
      let env = inside_names nothing body.wheres in
      let g = if_reached (system_outputs first s inputs) (λ n. system_outputs (reading_in program n env) (system_of binding_of body.expression) inputs) outputs
      (system_follows_in_time first (λ n. reading_in program n env) s (system_of binding_of body.expression) h inputs) e in
      mapped (λ n i. started (start_of program) _ body outputs found i) g
