-- What is kept stands for a value; what a name stands for in a flat environment; and what an expression reaches.
use Rattle.std.proofs.Common.{◌≡◌, ℕ, zero, suc, ◌+◌, List, [], ◌∷◌, ◌++◌, length, Option, Some, refl, arith, subst, append_assoc, length-append}
use Rattle.rw_scope_rules.specs.declared.binding.Bound.{Bound}
use Rattle.rw_tree.specs.Declarations.{Declaration}
use Rattle.rw_core.specs.Values.{Val, val, vals}
use Rattle.rw_meaning.specs.Options.{Tried, taken}
use Rattle.rw_meaning.specs.Results.{Outcome, datum, waiting_for_more, action, Thunk, Thunks, nothing, and_then, joined, thunk_at}
use Rattle.rw_meaning.specs.Evaluation.{evaluate, force, apply, result_within, clauses_there}
use Rattle.rw_core.specs.Traces.{End, waits, finished, Trace}
use Rattle.rw_meaning.specs.Trace.{acted, traced, act_within, trace_within}
use Rattle.rw_core_flat.specs.Meaning.{Mode, valued, acting, tracing, Answer, a_value, done, traced as a_trace, value_at}
use Rattle.inline_ho_rules.specs.Meants.{Meant, flat, suspended, local_use, unplaced, Meants, no_meants, more_meants, meant_at, joined_meants, flats}
use Rattle.rw_core.specs.Eventually.{Eventually}
use Rattle.rw_meaning.specs.Steps.{Gives, Stands, FieldsStand, AllStand, EachStands}

pub length_one : (env : List Val) (w : Val) (d : ℕ) → length env ≡ d → length (env ++ w ∷ []) ≡ suc d
length_one env w d e = let l : length (env ++ w ∷ []) ≡ length env + length (w ∷ []) = length-append env (w ∷ []) in omega arith

module _ (program : List (Declaration Bound)) where
  abbrev pub ShowsValue : Outcome → Val → Type 0
  ShowsValue (datum place ts) (val tag fields) = (place ≡ tag) × FieldsStand program ts fields
  ShowsValue _ _ = ⊥

  abbrev pub EndStands : End Thunk Thunks → End Val (List Val) → Type 0
  EndStands waits waits = Unit {0}
  EndStands (finished t ts left) (finished v vs inputs) = Stands program t v × AllStand program ts vs × (left ≡ inputs)
  EndStands _ _ = ⊥

  -- what an outcome is, as a value, as a state action and as a device
  abbrev pub Observed : Mode → Outcome → Answer → Type 0
  Observed valued r (a_value v) = ShowsValue r v
  Observed (acting states) r (done v others) = (ss : Thunks) → AllStand program ss states
      → (t : Thunk) × (ss' : Thunks) × Eventually (λ n. acted (act_within program n) r ss ≡ Some (t, ss')) × Stands program t v × AllStand program ss' others
  Observed (tracing states inputs) r (a_trace outputs end) = (ss : Thunks) → AllStand program ss states
      → (t : Trace Thunk Thunks) × Eventually (λ n. traced (act_within program n) (trace_within program n) r ss inputs ≡ Some t) × EachStands program t.outputs outputs × EndStands t.end end
  Observed _ _ _ = ⊥

  -- what is first had, then applied to these arguments, is this
  pub record ReachesAnswer (Head : Outcome → Type 0) (ts : Thunks) (mode : Mode) (a : Answer) : Type 0 where
    pub head : Outcome
    pub had : Head head
    pub result : Outcome
    pub given : Gives program (apply head ts) result
    pub observed : Observed mode result a

  -- a head that is had as an option, and one that is taken
  abbrev pub Has : (ℕ → Option Outcome) → Outcome → Type 0
  Has k f = Eventually (λ n. k n ≡ Some f)

  abbrev pub Takes : (ℕ → Tried Outcome) → Outcome → Type 0
  Takes k f = Eventually (λ n. k n ≡ taken f)

  module _ (env : List Val) where
    abbrev mutual
      pub MeantBy : Meant Bound → Thunk → Type 0
      MeantBy (flat k) t = (v : Val) × (value_at k env ≡ Some v) × Stands program t v
      MeantBy (suspended E e) t = (ρ : Thunks) × ((n : ℕ) → result_within program (suc n) (force t) ≡ result_within program n (evaluate ρ e)) × AllMeant E ρ
      MeantBy (local_use E cs) t = (ρ : Thunks) × ((n : ℕ) → result_within program (suc n) (force t) ≡ clauses_there program (result_within program n) ρ cs) × AllMeant E ρ
      MeantBy unplaced t = Unit {0}

      pub AllMeant : Meants Bound → Thunks → Type 0
      AllMeant no_meants nothing = Unit {0}
      AllMeant (more_meants m ms) (and_then t ts) = MeantBy m t × AllMeant ms ts
      AllMeant _ _ = ⊥

  -- == Environments ==

  value_more : (k : ℕ) (env others : List Val) (v : Val) → value_at k env ≡ Some v → value_at k (env ++ others) ≡ Some v
  value_more k [] others v e = absurd (cc)
  value_more zero (w ∷ env) others v e = e
  value_more (suc k) (w ∷ env) others v e = value_more k env others v e

  module _ (env others : List Val) where
    mutual
      pub meant_more : (m : Meant Bound) (t : Thunk) → MeantBy env m t → MeantBy (env ++ others) m t
      meant_more (flat k) t h = (h.0, value_more k env others h.0 h.1, h.2)
      meant_more (suspended E e) t h = (h.0, h.1, all_more E h.0 h.2)
      meant_more (local_use E cs) t h = (h.0, h.1, all_more E h.0 h.2)
      meant_more unplaced t h = tt

      pub all_more : (ms : Meants Bound) (ts : Thunks) → AllMeant env ms ts → AllMeant (env ++ others) ms ts
      all_more no_meants nothing h = tt
      all_more no_meants (and_then t ts) h = absurd h
      all_more (more_meants m ms) nothing h = absurd h
      all_more (more_meants m ms) (and_then t ts) h = (meant_more m t h.0, all_more ms ts h.1)

  pub all_joined : (env : List Val) (ms ns : Meants Bound) (ts us : Thunks) → AllMeant env ms ts → AllMeant env ns us → AllMeant env (joined_meants ms ns) (joined ts us)
  all_joined env no_meants ns nothing us h k = k
  all_joined env no_meants ns (and_then t ts) us h k = absurd h
  all_joined env (more_meants m ms) ns nothing us h k = absurd h
  all_joined env (more_meants m ms) ns (and_then t ts) us h k = (h.0, all_joined env ms ns ts us h.1 k)

  -- what a name stands for
  pub looked_up : (env : List Val) (k : ℕ) (E : Meants Bound) (ρ : Thunks) (m : Meant Bound) → AllMeant env E ρ → meant_at k E ≡ Some m → (t : Thunk) × (thunk_at k ρ ≡ Some t) × MeantBy env m t
  looked_up env k no_meants ρ m h e = absurd (cc)
  looked_up env k (more_meants n ns) nothing m h e = absurd h
  looked_up env zero (more_meants n ns) (and_then t ts) m h e = let k : n ≡ m = cc in (t, refl, subst (λ x. MeantBy env x t) k h.0)
  looked_up env (suc k) (more_meants n ns) (and_then t ts) m h e = looked_up env k ns ts m h.1 e

  value_last : (env : List Val) (v : Val) (others : List Val) → value_at (length env) (env ++ v ∷ others) ≡ Some v
  value_last [] v others = refl
  value_last (w ∷ env) v others = value_last env v others

  -- new flat variables stand for new values
  pub flats_meant : (env : List Val) (ws : List Val) (xs : Thunks) (d n : ℕ) → length env ≡ d → length ws ≡ n → AllStand program xs ws → AllMeant (env ++ ws) (flats d n) xs
  flats_meant env [] nothing d n e k h = subst (λ z. AllMeant (env ++ []) (flats d z) nothing) k tt
  flats_meant env [] (and_then x xs) d n e k h = absurd h
  flats_meant env (w ∷ ws) nothing d n e k h = absurd h
  flats_meant env (w ∷ ws) (and_then x xs) d zero e k h = absurd (cc)
  flats_meant env (w ∷ ws) (and_then x xs) d (suc n) e k h =
      let l : value_at d (env ++ w ∷ ws) ≡ Some w = subst (λ z. value_at z (env ++ w ∷ ws) ≡ Some w) e (value_last env w ws) in
      let r : AllMeant ((env ++ w ∷ []) ++ ws) (flats (suc d) n) xs = flats_meant (env ++ w ∷ []) ws xs (suc d) n (length_one env w d e) (omega arith) h.1 in
      ((w, l, h.0), rw append_assoc at r)

  -- == Thunks that are given ==

  -- a result that shows a value, of something kept
  pub stands_by : (t : Thunk) (r : Outcome) (v : Val) → Gives program (force t) r → ShowsValue r v → Stands program t v
  stands_by t (datum place ts) (val tag fields) g h = (ts, subst (λ z. Gives program (force t) (datum z ts)) h.0 g, h.1)
  stands_by t (waiting_for_more f ts) (val tag fields) g h = absurd h
  stands_by t (action o ts) (val tag fields) g h = absurd h

  pub fields_stand : (ts : Thunks) (vs : List Val) → AllStand program ts vs → FieldsStand program ts (vals vs)
  fields_stand nothing [] h = tt
  fields_stand nothing (v ∷ vs) h = absurd h
  fields_stand (and_then t ts) [] h = absurd h
  fields_stand (and_then t ts) (v ∷ vs) h = (h.0, fields_stand ts vs h.1)
