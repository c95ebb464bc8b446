-- What the operations of devices do.
use Rattle.std.proofs.Common.{◌≡◌, ℕ, suc, List, [], ◌∷◌, ◌++◌, Option, Some, None, refl, ap, ◌∙◌, subst}
use Rattle.rw_scope_rules.specs.declared.binding.Operation.{Operation}
use Rattle.rw_scope_rules.specs.declared.binding.Operation.TheVariants.{Return, Get, Put, Lift, Signal, Extrude}
use Rattle.rw_scope_rules.specs.declared.binding.Binding.TheVariants.{Operation as Operates}
use Rattle.rw_scope_rules.specs.declared.binding.Bound.{Bound}
use Rattle.rw_tree.specs.Trees.{variable}
use Rattle.rw_tree.specs.Declarations.{Declaration}
use Rattle.rw_core.specs.Values.{Val, val, none}
use Rattle.rw_core.specs.Options.{◌>>=◌}
use Rattle.rw_meaning.specs.Results.{Outcome, datum, waiting_for_more, action, of_operation, Thunk, kept_call, known, Thunks, nothing, and_then, held}
use Rattle.rw_meaning.specs.Evaluation.{Task, evaluate, force, apply, step, result_within, operation_alone, applied}
use Rattle.rw_core.specs.Traces.{End, waits, finished, Trace, and_on, without_state}
use Rattle.rw_meaning.specs.Trace.{acted, traced, other_states, act_within, trace_within}
use Rattle.rw_core_flat.specs.Meaning.{Mode, valued, acting, tracing, Answer, a_value, done, traced as a_trace, returned, got, stored, shown_as_signal, goes_on, lifted, above, silently, extruded, below, as_trace, of_trace}
use Rattle.rw_core.specs.Eventually.{Eventually}
use Rattle.rw_core.proofs.Eventually.{always, mapped, mapped_two, later, if_on, if_map}
use Rattle.std.specs.Option.{IfSome}
use Rattle.rw_meaning.proofs.Acting.{acts, traces, held_stands}
use Rattle.rw_meaning.specs.Steps.{Acts, Traces, Gives, Stands, AllStand, EachStands}
use Rattle.inline_ho_laws.proofs.Stands.{EndStands, Observed, ReachesAnswer}
use Rattle.rw_meaning.proofs.Applying.{applied_to_nothing, gives_step}
use Rattle.inline_ho_laws.proofs.Rules.{given_to_nothing}

operation_goes : (R : Task → Option Outcome) (program : List (Declaration Bound)) (ρ : Thunks) (a : Bound) (x : List ℕ) (o : Operation) → a.bound ≡ Some (Operates o) → step program R (evaluate ρ (variable a x)) ≡ Some (operation_alone o)
operation_goes R program ρ a x o e = rw e

module _ (program : List (Declaration Bound)) where
  -- what is kept reaches an answer
  abbrev pub ForceReaches : Thunk → Mode → Answer → Type 0
  ForceReaches m mode a = ReachesAnswer program (Gives program (force m)) nothing mode a

  pub acted_by : (m : Thunk) (states : List Val) (v : Val) (others : List Val) → ForceReaches m (acting states) (done v others) → (ss : Thunks) → AllStand program ss states
      → (t : Thunk) × (ss' : Thunks) × Acts program m ss t ss' × Stands program t v × AllStand program ss' others
  acted_by m states v others r ss h =
      let e : r.head ≡ r.result = given_to_nothing program r.head r.result r.given in
      let o = r.observed ss h in
      (o.0, o.1, acts program m ss r.result o.0 o.1 (subst (Gives program (force m)) e r.had) o.2, o.3, o.4)

  pub traced_by : (m : Thunk) (states inputs outputs : List Val) (end : End Val (List Val)) → ForceReaches m (tracing states inputs) (a_trace outputs end) → (ss : Thunks) → AllStand program ss states
      → (t : Trace Thunk Thunks) × Traces program m ss inputs t × EachStands program t.outputs outputs × EndStands program t.end end
  traced_by m states inputs outputs end r ss h =
      let e : r.head ≡ r.result = given_to_nothing program r.head r.result r.given in
      let o = r.observed ss h in
      (o.0, traces program m ss inputs r.result o.0 (subst (Gives program (force m)) e r.had) o.1, o.2, o.3)

  -- a call of what is kept
  call_goes : (R : Task → Option Outcome) (k : Thunk) (ts : Thunks) (f r : Outcome) → R (force k) ≡ Some f → R (apply f ts) ≡ Some r → step program R (force (kept_call k ts)) ≡ Some r
  call_goes R k ts f r e h = rw e h

  pub call_reaches : (k : Thunk) (ts : Thunks) (mode : Mode) (x : Option Answer) → IfSome x (ReachesAnswer program (Gives program (force k)) ts mode) → IfSome x (ForceReaches (kept_call k ts) mode)
  call_reaches k ts mode x h = if_map _ _ x (λ a r. record {
    head = r.result;
    had = gives_step program _ _ (mapped_two (λ n i j. call_goes (result_within program n) k ts r.head r.result i j) r.had r.given);
    result = r.result;
    given = applied_to_nothing program r.result;
    observed = r.observed;
  }) h

  -- == Operations ==

  once : (b : ℕ) (r : Outcome) → result_within program (suc b) (apply r nothing) ≡ Some r
  unfolding result_within
  once b r = refl

  pub reaches_get : (ρ : Thunks) (a : Bound) (x : List ℕ) (mode : Mode) → a.bound ≡ Some (Operates Get) → (answer : Answer) → Observed program mode (action Get nothing) answer
      → ReachesAnswer program (Gives program (evaluate ρ (variable a x))) nothing mode answer
  reaches_get ρ a x mode e answer o = record {
    head = action Get nothing;
    had = gives_step program _ _ (always (λ n. operation_goes (result_within program n) program ρ a x Get e));
    result = action Get nothing;
    given = applied_to_nothing program _;
    observed = o;
  }

  -- an operation with its arguments
  pub reaches_operation : (o : Operation) (ts : Thunks) → operation_alone o ≡ waiting_for_more (of_operation o) nothing
      → ((R : Task → Option Outcome) → applied program R (waiting_for_more (of_operation o) nothing) ts ≡ R (apply (action o ts) nothing))
      → (ρ : Thunks) (a : Bound) (x : List ℕ) → a.bound ≡ Some (Operates o) → (mode : Mode) (y : Option Answer) → IfSome y (Observed program mode (action o ts))
      → IfSome y (ReachesAnswer program (Gives program (evaluate ρ (variable a x))) ts mode)
  reaches_operation o ts alone goes ρ a x e mode y h = if_map _ _ y (λ b k. record {
    head = waiting_for_more (of_operation o) nothing;
    had = gives_step program _ _ (always (λ n. operation_goes (result_within program n) program ρ a x o e ∙ ap Some alone));
    result = action o ts;
    given = gives_step program _ _ (later _ (always (λ n. goes (result_within program (suc n)) ∙ once n (action o ts))));
    observed = k;
  }) h

  pub return_case : (t : Thunk) (v : Val) → Stands program t v → (mode : Mode) → IfSome (returned mode v) (Observed program mode (action Return (and_then t nothing)))
  return_case t v s valued = tt
  return_case t v s (acting states) = λ ss h. (t, ss, always (λ n. refl), s, h)
  return_case t v s (tracing states inputs) = λ ss h. (record { outputs = []; end = finished t ss inputs }, always (λ n. refl), tt, (s, h, refl))

  pub signal_case : (t : Thunk) (v : Val) → Stands program t v → (mode : Mode) → IfSome (shown_as_signal mode v) (Observed program mode (action Signal (and_then t nothing)))
  signal_case t v s valued = tt
  signal_case t v s (acting states) = tt
  signal_case t v s (tracing states []) = λ ss h. (record { outputs = t ∷ []; end = waits }, always (λ n. refl), (s, tt), tt)
  signal_case t v s (tracing states (i ∷ inputs)) = λ ss h. (record { outputs = t ∷ []; end = finished (known (held i)) ss inputs }, always (λ n. refl), (s, tt), (held_stands program i, h, refl))

  put_acts : (t : Thunk) (v : Val) → Stands program t v → (s : Val) (states : List Val) (ss : Thunks) → AllStand program ss (s ∷ states)
      → (u : Thunk) × (ss' : Thunks) × Eventually (λ n. acted (act_within program n) (action Put (and_then t nothing)) ss ≡ Some (u, ss')) × Stands program u (val 0 none) × AllStand program ss' (v ∷ states)
  put_acts t v s old states nothing h = absurd h
  put_acts t v s old states (and_then x ss) h = (known (datum 0 nothing), and_then t ss, always (λ n. refl), (nothing, gives_step program _ _ (always (λ n. refl)), tt), (s, h.1))

  pub put_case : (t : Thunk) (v : Val) → Stands program t v → (mode : Mode) → IfSome (stored mode v) (Observed program mode (action Put (and_then t nothing)))
  put_case t v s valued = tt
  put_case t v s (acting []) = tt
  put_case t v s (acting (old ∷ states)) = λ ss h. put_acts t v s old states ss h
  put_case t v s (tracing states inputs) = tt

  get_acts : (s : Val) (states : List Val) (ss : Thunks) → AllStand program ss (s ∷ states)
      → (u : Thunk) × (ss' : Thunks) × Eventually (λ n. acted (act_within program n) (action Get nothing) ss ≡ Some (u, ss')) × Stands program u s × AllStand program ss' (s ∷ states)
  get_acts old states nothing h = absurd h
  get_acts old states (and_then x ss) h = (x, and_then x ss, always (λ n. refl), h.0, h)

  pub get_case : (mode : Mode) → IfSome (got mode) (Observed program mode (action Get nothing))
  get_case valued = tt
  get_case (acting []) = tt
  get_case (acting (old ∷ states)) = λ ss h. get_acts old states ss h
  get_case (tracing states inputs) = tt

  -- == Lift ==

  lift_acts : (m : Thunk) (s : Val) (states : List Val) (v : Val) (others : List Val) → ForceReaches m (acting states) (done v others) → (ss : Thunks) → AllStand program ss (s ∷ states)
      → (u : Thunk) × (ss' : Thunks) × Eventually (λ n. acted (act_within program n) (action Lift (and_then m nothing)) ss ≡ Some (u, ss')) × Stands program u v × AllStand program ss' (s ∷ others)
  lift_acts m s states v others r nothing h = absurd h
  lift_acts m s states v others r (and_then x ss) h = let p = acted_by m states v others r ss h.1 in (p.0, and_then x p.1, mapped (λ n e. rw e) p.2, p.3, (h.0, p.4))

  lift_done : (m : Thunk) (s : Val) (states : List Val) (a : Answer) → ForceReaches m (acting states) a → IfSome (above s a) (Observed program (acting (s ∷ states)) (action Lift (and_then m nothing)))
  lift_done m s states (a_value v) r = tt
  lift_done m s states (a_trace outputs end) r = tt
  lift_done m s states (done v others) r = λ ss h. lift_acts m s states v others r ss h

  lift_silent : (m : Thunk) (states inputs : List Val) (a : Answer) → ForceReaches m (acting states) a → IfSome (silently inputs a) (Observed program (tracing states inputs) (action Lift (and_then m nothing)))
  lift_silent m states inputs (a_value v) r = tt
  lift_silent m states inputs (a_trace outputs end) r = tt
  lift_silent m states inputs (done v others) r = λ ss h.
      let p = acted_by m states v others r ss h in (record { outputs = []; end = finished p.0 p.1 inputs }, mapped (λ n e. rw e) p.2, tt, (p.3, p.4, refl))

  pub lift_case : (m : Thunk) (again : Mode → Option Answer) → ((mode : Mode) → IfSome (again mode) (ForceReaches m mode)) → (mode : Mode) → IfSome (lifted mode again) (Observed program mode (action Lift (and_then m nothing)))
  lift_case m again h valued = tt
  lift_case m again h (acting []) = tt
  lift_case m again h (acting (s ∷ states)) = if_on (ForceReaches m (acting states)) _ (again (acting states)) (above s) (h (acting states)) (λ a r. lift_done m s states a r)
  lift_case m again h (tracing states inputs) = if_on (ForceReaches m (acting states)) _ (again (acting states)) (silently inputs) (h (acting states)) (λ a r. lift_silent m states inputs a r)

  -- == Extrude ==

  ended : (end : End Thunk Thunks) (v : Val) (states inputs : List Val) → EndStands program end (finished v states inputs) → (t : Thunk) × (ss : Thunks) × (end ≡ finished t ss inputs) × Stands program t v × AllStand program ss states
  ended waits v states inputs h = absurd h
  ended (finished t ss left) v states inputs h = (t, ss, ap (finished t ss) h.2, h.0, h.1)

  still_waiting : (end : End Thunk Thunks) → EndStands program end waits → end ≡ waits
  still_waiting waits h = refl
  still_waiting (finished t ss left) h = absurd h

  drops : (x : Option (Trace Thunk Thunks)) (t : Trace Thunk Thunks) (end : End Thunk Thunks) (made : Trace Thunk Thunks) → x ≡ Some t → t.end ≡ end → without_state other_states t.outputs end ≡ Some made → (x >>= λ t. without_state other_states t.outputs t.end) ≡ Some made
  drops x t end made e g h = rw (e, g) h

  extrude_finishes : (d st : Thunk) (states inputs outputs : List Val) (v s' : Val) (others left : List Val) (ss : Thunks) (t : Trace Thunk Thunks) → Traces program d (and_then st ss) inputs t → EachStands program t.outputs outputs
      → (u : Thunk) (ss' : Thunks) → t.end ≡ finished u ss' left → Stands program u v → AllStand program ss' (s' ∷ others)
      → (made : Trace Thunk Thunks) × Eventually (λ n. traced (act_within program n) (trace_within program n) (action Extrude (and_then d (and_then st nothing))) ss inputs ≡ Some made)
      × EachStands program made.outputs outputs × EndStands program made.end (finished v others left)
  extrude_finishes d st states inputs outputs v s' others left ss t h o u nothing e s k = absurd k
  extrude_finishes d st states inputs outputs v s' others left ss t h o u (and_then x ss') e s k =
      (record { outputs = t.outputs; end = finished u ss' left }, mapped (λ n i. drops _ t (finished u (and_then x ss') left) _ i e refl) h, o, (s, k.1, refl))

  -- a device's answer without its first state
  abbrev without_first : Answer → Option Answer
  without_first a = do t ← as_trace a; u ← without_state below t.outputs t.end; Some (of_trace u)

  extrude_done : (d st : Thunk) (s : Val) → Stands program st s → (states inputs : List Val) (a : Answer) → ForceReaches d (tracing (s ∷ states) inputs) a
      → IfSome (without_first a) (Observed program (tracing states inputs) (action Extrude (and_then d (and_then st nothing))))
  extrude_done d st s k states inputs (a_value v) r = tt
  extrude_done d st s k states inputs (done v others) r = tt
  extrude_done d st s k states inputs (a_trace outputs waits) r = λ ss h.
      let p = traced_by d (s ∷ states) inputs outputs waits r (and_then st ss) (k, h) in
      (record { outputs = p.0.outputs; end = waits }, mapped (λ n i. drops _ p.0 waits _ i (still_waiting p.0.end p.3) refl) p.1, p.2, tt)
  extrude_done d st s k states inputs (a_trace outputs (finished v [] left)) r = tt
  extrude_done d st s k states inputs (a_trace outputs (finished v (s' ∷ others) left)) r = λ ss h.
      let p = traced_by d (s ∷ states) inputs outputs (finished v (s' ∷ others) left) r (and_then st ss) (k, h) in
      let e = ended p.0.end v (s' ∷ others) left p.3 in
      extrude_finishes d st states inputs outputs v s' others left ss p.0 p.1 p.2 e.0 e.1 e.2 e.3 e.4

  pub extrude_case : (d st : Thunk) (s : Val) → Stands program st s → (again : Mode → Option Answer) → ((mode : Mode) → IfSome (again mode) (ForceReaches d mode)) → (mode : Mode)
      → IfSome (extruded mode s again) (Observed program mode (action Extrude (and_then d (and_then st nothing))))
  extrude_case d st s k again h valued = tt
  extrude_case d st s k again h (acting states) = tt
  extrude_case d st s k again h (tracing states inputs) = by_answer (again (tracing (s ∷ states) inputs)) (h (tracing (s ∷ states) inputs))
    where
      by_answer : (x : Option Answer) → IfSome x (ForceReaches d (tracing (s ∷ states) inputs))
          → IfSome ((x >>= as_trace) >>= λ t. without_state below t.outputs t.end >>= λ u. Some (of_trace u)) (Observed program (tracing states inputs) (action Extrude (and_then d (and_then st nothing))))
      by_answer None r = tt
      by_answer (Some a) r = extrude_done d st s k states inputs a r

  -- == Binds ==

  acts_on : {A B : Type 0} (x : Option A) (f : A → Option B) (a : A) (b : B) → x ≡ Some a → f a ≡ Some b → (x >>= f) ≡ Some b
  acts_on x f a b e h = rw e h

  goes_after : (x : Option (Trace Thunk Thunks)) (next : Thunk → Thunks → List Val → Option (Trace Thunk Thunks)) (t : Trace Thunk Thunks) (u : Thunk) (ss : Thunks) (left : List Val) (q : Trace Thunk Thunks) → x ≡ Some t → t.end ≡ finished u ss left → next u ss left ≡ Some q
      → (x >>= λ t. and_on t.outputs t.end next) ≡ Some (record { outputs = t.outputs ++ q.outputs; end = q.end })
  goes_after x next t u ss left q e g h = rw (e, g, h)

  waits_after : (x : Option (Trace Thunk Thunks)) (next : Thunk → Thunks → List Val → Option (Trace Thunk Thunks)) (t : Trace Thunk Thunks) → x ≡ Some t → t.end ≡ waits → (x >>= λ t. and_on t.outputs t.end next) ≡ Some (record { outputs = t.outputs; end = waits })
  waits_after x next t e g = rw (e, g)

  each_joined : (ts us : List Thunk) (vs ws : List Val) → EachStands program ts vs → EachStands program us ws → EachStands program (ts ++ us) (vs ++ ws)
  each_joined [] us [] ws h k = k
  each_joined [] us (v ∷ vs) ws h k = absurd h
  each_joined (t ∷ ts) us [] ws h k = absurd h
  each_joined (t ∷ ts) us (v ∷ vs) ws h k = (h.0, each_joined ts us vs ws h.1 k)

  -- an action that goes on with what its first part gives
  module _ (r : Outcome) (m : Thunk) (K : Thunk → Thunk)
      (how_acted : (R : Thunk → Thunks → Option (Thunk × Thunks)) (ss : Thunks) → acted R r ss ≡ (R m ss >>= λ p. R (K p.0) p.1))
      (how_traced : (A : Thunk → Thunks → Option (Thunk × Thunks)) (R : Thunk → Thunks → List Val → Option (Trace Thunk Thunks)) (ss : Thunks) (inputs : List Val) → traced A R r ss inputs ≡ (R m ss inputs >>= λ t. and_on t.outputs t.end (λ v. R (K v)))) where
    act_on : (states : List Val) (v : Val) (others : List Val) → ForceReaches m (acting states) (done v others) → (y : Option Answer) → ((t : Thunk) → Stands program t v → IfSome y (ForceReaches (K t) (acting others)))
        → IfSome y (Observed program (acting states) r)
    act_on states v others h None k = tt
    act_on states v others h (Some (a_value w)) k = absurd ((k (known (held v)) (held_stands program v)).observed)
    act_on states v others h (Some (a_trace outputs end)) k = absurd ((k (known (held v)) (held_stands program v)).observed)
    act_on states v others h (Some (done w after)) k = λ ss s.
        let p = acted_by m states v others h ss s in
        let q = acted_by (K p.0) others w after (k p.0 p.3) p.1 p.4 in
        (q.0, q.1, mapped_two (λ n a b. how_acted (act_within program n) ss ∙ acts_on _ (λ p. act_within program n (K p.0) p.1) (p.0, p.1) (q.0, q.1) a b) p.2 q.2, q.3, q.4)

    -- the answer of what goes on, behind these outputs
    abbrev behind : List Val → Option Answer → Option Answer
    behind outputs y = ((y >>= as_trace) >>= λ t. Some (record { outputs = outputs ++ t.outputs; end = t.end })) >>= λ t. Some (of_trace t)

    trace_on : (states inputs outputs : List Val) (v : Val) (others left : List Val) → ForceReaches m (tracing states inputs) (a_trace outputs (finished v others left)) → (y : Option Answer)
        → ((t : Thunk) → Stands program t v → IfSome y (ForceReaches (K t) (tracing others left))) → IfSome (behind outputs y) (Observed program (tracing states inputs) r)
    trace_on states inputs outputs v others left h None k = tt
    trace_on states inputs outputs v others left h (Some (a_value w)) k = tt
    trace_on states inputs outputs v others left h (Some (done w after)) k = tt
    trace_on states inputs outputs v others left h (Some (a_trace further end)) k = λ ss s.
        let p = traced_by m states inputs outputs (finished v others left) h ss s in
        let e = ended p.0.end v others left p.3 in
        let q = traced_by (K e.0) others left further end (k e.0 e.3) e.1 e.4 in (
          record { outputs = p.0.outputs ++ q.0.outputs; end = q.0.end },
          mapped_two (λ n a b. how_traced (act_within program n) (trace_within program n) ss inputs ∙ goes_after _ (λ v. trace_within program n (K v)) p.0 e.0 e.1 left q.0 a e.2 b) p.1 q.1,
          each_joined p.0.outputs q.0.outputs outputs further p.2 q.2,
          q.3,
        )

    waits_on : (states inputs outputs : List Val) → ForceReaches m (tracing states inputs) (a_trace outputs waits) → Observed program (tracing states inputs) r (a_trace outputs waits)
    waits_on states inputs outputs h = λ ss s.
        let p = traced_by m states inputs outputs waits h ss s in (
          record { outputs = p.0.outputs; end = waits },
          mapped (λ n a. how_traced (act_within program n) (trace_within program n) ss inputs ∙ waits_after _ (λ v. trace_within program n (K v)) p.0 a (still_waiting p.0.end p.3)) p.1,
          p.2,
          tt,
        )

    pub bind_case : (mode : Mode) (x : Option Answer) (next : Mode → Val → Option Answer) → IfSome x (ForceReaches m mode) → ((mode : Mode) (v : Val) (t : Thunk) → Stands program t v → IfSome (next mode v) (ForceReaches (K t) mode))
        → IfSome (x >>= λ a. goes_on a next) (Observed program mode r)
    bind_case mode None next h k = tt
    bind_case valued (Some (a_value v)) next h k = tt
    bind_case valued (Some (done v others)) next h k = absurd (h.observed)
    bind_case valued (Some (a_trace outputs end)) next h k = absurd (h.observed)
    bind_case (acting states) (Some (a_value v)) next h k = tt
    bind_case (acting states) (Some (done v others)) next h k = act_on states v others h (next (acting others) v) (k (acting others) v)
    bind_case (acting states) (Some (a_trace outputs end)) next h k = absurd (h.observed)
    bind_case (tracing states inputs) (Some (a_value v)) next h k = tt
    bind_case (tracing states inputs) (Some (done v others)) next h k = absurd (h.observed)
    bind_case (tracing states inputs) (Some (a_trace outputs waits)) next h k = waits_on states inputs outputs h
    bind_case (tracing states inputs) (Some (a_trace outputs (finished v others left))) next h k = trace_on states inputs outputs v others left h (next (tracing others left) v) (k (tracing others left) v)
