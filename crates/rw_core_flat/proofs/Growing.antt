-- A greater budget never changes a result.
use Rattle.std.proofs.Common.{◌≡◌, ℕ, zero, suc, ◌+◌, nat_eq, Bool, true, false, if◌then◌else◌, List, [], ◌∷◌, ◌++◌, length, Option, Some, None, refl, arith}
use Rattle.rw_core.specs.Values.{Val, val}
use Rattle.rw_core.specs.Options.{◌>>=◌, Grows}
use Rattle.rw_core.specs.Traces.{Trace, End, waits, finished, and_on, shown}
use Rattle.rw_core.specs.Systems.{System, system_outputs}
use Rattle.rw_core.proofs.Options.{grows_same, grows_on}
use Rattle.rw_core.proofs.Systems.{system_follows, alike_same}
use Rattle.rw_meaning.specs.Options.{Tried, stuck, tried, what_is_taken}
use Rattle.rw_meaning.proofs.Grows.{Keeps, keeps_same, keeps_on, keeps_or, keeps_tried, grows_taken}
use Rattle.rw_core_flat.specs.Terms.{FlatTerm, local_term, built_term, case_term, let_term, call_term, mark_term, return_term, get_term, put_term, lift_term, bind_term, signal_term, extrude_term, FlatTerms, no_terms, more_terms}
use Rattle.rw_core_flat.specs.Terms.{FlatLets, no_lets, more_lets, FlatRows, no_rows, more_rows, FlatArms, body_arm, no_arms, more_arms}
use Rattle.rw_core_flat.specs.Meaning.{Mode, valued, acting, tracing, Answer, a_value, done, traced, as_value, as_trace, returned, stored, shown_as_signal, goes_on, above, silently, lifted, extruded, if_holds}
use Rattle.rw_core_flat.specs.Meaning.{matched, row_matched, value_at, meaning, values, bound, rows_meaning, arms_meaning}
use Rattle.rw_core_flat.specs.Programs.{FlatFunction, function_at, call_within, read_by, outputs_within}

-- what comes after the same grows where it grows after each result
pub unchanged : {A B : Type 0} (x : Option A) (f g : A → Option B) → ((a : A) → Grows (f a) (g a)) → Grows (x >>= f) (x >>= g)
unchanged x f g h = grows_on x x f g (grows_same x) h

-- and the same comes after what grows
pub followed : {A B : Type 0} (x later : Option A) (f : A → Option B) → Grows x later → Grows (x >>= f) (later >>= f)
followed x later f h = grows_on x later f f h (λ a. grows_same (f a))

pub and_on_grows : {V S : Type 0} (outputs : List V) (end : End V S) (f g : V → S → List Val → Option (Trace V S)) → ((v : V) (s : S) (inputs : List Val) → Grows (f v s inputs) (g v s inputs)) → Grows (and_on outputs end f) (and_on outputs end g)
and_on_grows outputs waits f g h = refl
and_on_grows outputs (finished v s inputs) f g h = followed (f v s inputs) (g v s inputs) _ (h v s inputs)

goes_grows : (a : Answer) (f g : Mode → Val → Option Answer) → ((mode : Mode) (v : Val) → Grows (f mode v) (g mode v)) → Grows (goes_on a f) (goes_on a g)
goes_grows (a_value v) f g h = tt
goes_grows (done v states) f g h = h (acting states) v
goes_grows (traced outputs end) f g h =
    followed _ _ _ (and_on_grows outputs end _ _ (λ v states inputs. followed (f (tracing states inputs) v) (g (tracing states inputs) v) as_trace (h (tracing states inputs) v)))

lifted_grows : (mode : Mode) (f g : Mode → Option Answer) → ((mode : Mode) → Grows (f mode) (g mode)) → Grows (lifted mode f) (lifted mode g)
lifted_grows valued f g h = tt
lifted_grows (acting []) f g h = tt
lifted_grows (acting (s ∷ states)) f g h = followed (f (acting states)) (g (acting states)) (above s) (h (acting states))
lifted_grows (tracing states inputs) f g h = followed (f (acting states)) (g (acting states)) (silently inputs) (h (acting states))

extruded_grows : (mode : Mode) (v : Val) (f g : Mode → Option Answer) → ((mode : Mode) → Grows (f mode) (g mode)) → Grows (extruded mode v f) (extruded mode v g)
extruded_grows valued v f g h = tt
extruded_grows (acting states) v f g h = tt
extruded_grows (tracing states inputs) v f g h =
    followed (f (tracing (v ∷ states) inputs) >>= as_trace) (g (tracing (v ∷ states) inputs) >>= as_trace) _ (followed (f (tracing (v ∷ states) inputs)) (g (tracing (v ∷ states) inputs)) as_trace (h (tracing (v ∷ states) inputs)))

pub holds_grows : {A : Type 0} (v : Val) (x later y other : Tried A) → Keeps x later → Keeps y other → Keeps (if_holds v x y stuck) (if_holds v later other stuck)
holds_grows (val zero vs) x later y other h k = k
holds_grows (val (suc zero) vs) x later y other h k = h
holds_grows (val (suc (suc tag)) vs) x later y other h k = tt

module _ (calls later : Mode → ℕ → List Val → Option Answer) (h : (mode : Mode) (i : ℕ) (vs : List Val) → Grows (calls mode i vs) (later mode i vs)) where
  mutual
    pub meaning_grows : (t : FlatTerm) (mode : Mode) (env : List Val) → Grows (meaning calls t mode env) (meaning later t mode env)
    meaning_grows (local_term k) valued env = grows_same (value_at k env >>= λ v. Some (a_value v))
    meaning_grows (local_term k) (acting states) env = tt
    meaning_grows (local_term k) (tracing states inputs) env = tt
    meaning_grows (built_term type place ts) valued env = followed _ _ _ (values_grow ts env)
    meaning_grows (built_term type place ts) (acting states) env = tt
    meaning_grows (built_term type place ts) (tracing states inputs) env = tt
    meaning_grows (case_term ts rows) mode env = grows_on _ _ _ _ (values_grow ts env) (λ vs. grows_taken _ _ (rows_keep rows mode env vs))
    meaning_grows (let_term lets t) mode env = grows_on _ _ _ _ (bound_grows lets env) (λ inner. meaning_grows t mode inner)
    meaning_grows (call_term i ts) mode env = grows_on _ _ _ _ (values_grow ts env) (λ vs. h mode i vs)
    meaning_grows (mark_term t) mode env = meaning_grows t mode env
    meaning_grows (return_term t) mode env = followed _ _ (returned mode) (followed _ _ as_value (meaning_grows t valued env))
    meaning_grows get_term mode env = grows_same _
    meaning_grows (put_term t) mode env = followed _ _ (stored mode) (followed _ _ as_value (meaning_grows t valued env))
    meaning_grows (lift_term t) mode env = lifted_grows mode (λ m. meaning calls t m env) (λ m. meaning later t m env) (λ m. meaning_grows t m env)
    meaning_grows (bind_term t u) mode env =
        grows_on _ _ _ _ (meaning_grows t mode env) (λ a. goes_grows a (λ m v. meaning calls u m (env ++ v ∷ [])) (λ m v. meaning later u m (env ++ v ∷ [])) (λ m v. meaning_grows u m (env ++ v ∷ [])))
    meaning_grows (signal_term t) mode env = followed _ _ (shown_as_signal mode) (followed _ _ as_value (meaning_grows t valued env))
    meaning_grows (extrude_term t u) mode env =
        grows_on _ _ (λ s. extruded mode s (λ m. meaning calls t m env)) (λ s. extruded mode s (λ m. meaning later t m env)) (followed _ _ as_value (meaning_grows u valued env))
        (λ s. extruded_grows mode s (λ m. meaning calls t m env) (λ m. meaning later t m env) (λ m. meaning_grows t m env))

    values_grow : (ts : FlatTerms) (env : List Val) → Grows (values calls ts env) (values later ts env)
    values_grow no_terms env = refl
    values_grow (more_terms t ts) env =
        grows_on _ _ (λ v. values calls ts env >>= λ vs. Some (v ∷ vs)) (λ v. values later ts env >>= λ vs. Some (v ∷ vs)) (followed _ _ as_value (meaning_grows t valued env)) (λ v. followed _ _ (λ vs. Some (v ∷ vs)) (values_grow ts env))

    bound_grows : (lets : FlatLets) (env : List Val) → Grows (bound calls lets env) (bound later lets env)
    bound_grows no_lets env = refl
    bound_grows (more_lets p t others) env = grows_on _ _ _ _ (followed _ _ as_value (meaning_grows t valued env)) (λ v. unchanged (what_is_taken (matched p v)) _ _ (λ xs. bound_grows others (env ++ xs)))

    rows_keep : (rows : FlatRows) (mode : Mode) (env vs : List Val) → Keeps (rows_meaning calls rows mode env vs) (rows_meaning later rows mode env vs)
    rows_keep no_rows mode env vs = refl
    rows_keep (more_rows ps lets arms others) mode env vs =
        keeps_or _ _ _ _
        (keeps_on (row_matched ps vs) (row_matched ps vs) _ _ (keeps_same (row_matched ps vs))
        (λ xs. keeps_on _ _ (arms_meaning calls arms mode) (arms_meaning later arms mode) (keeps_tried _ _ (bound_grows lets (env ++ xs))) (λ inner. arms_keep arms mode inner)))
        (rows_keep others mode env vs)

    arms_keep : (arms : FlatArms) (mode : Mode) (env : List Val) → Keeps (arms_meaning calls arms mode env) (arms_meaning later arms mode env)
    arms_keep (body_arm t) mode env = keeps_tried _ _ (meaning_grows t mode env)
    arms_keep no_arms mode env = refl
    arms_keep (more_arms g t others) mode env =
        keeps_on _ _ (λ v. if_holds v (tried (meaning calls t mode env)) (arms_meaning calls others mode env) stuck) (λ v. if_holds v (tried (meaning later t mode env)) (arms_meaning later others mode env) stuck)
        (keeps_tried _ _ (followed _ _ as_value (meaning_grows g valued env))) (λ v. holds_grows v _ _ _ _ (keeps_tried _ _ (meaning_grows t mode env)) (arms_keep others mode env))

  pub system_grows : (s : System ℕ ℕ) (inputs : List Val) → Grows (system_outputs (read_by calls) s inputs) (system_outputs (read_by later) s inputs)
  system_grows s inputs = system_follows (read_by calls) (read_by later) s s
      (alike_same _ _ _
      (λ i is. followed (calls (tracing [] is) i [] >>= as_trace) (later (tracing [] is) i [] >>= as_trace) (λ t. shown (length is) t.end t.outputs) (followed _ _ as_trace (h (tracing [] is) i [])))
      (λ i v. followed _ _ as_value (h valued i (v ∷ []))) (λ i v w. followed _ _ as_value (h valued i (v ∷ w ∷ []))) s)
      inputs

pub if_grows : {A : Type 0} (c : Bool) (x y : Option A) → Grows x y → Grows (if c then x else None) (if c then y else None)
if_grows true x y h = h
if_grows false x y h = tt

module _ (functions : List FlatFunction) where
  pub call_grows : (further b : ℕ) (mode : Mode) (i : ℕ) (vs : List Val) → Grows (call_within functions b mode i vs) (call_within functions (further + b) mode i vs)
  unfolding call_within
  call_grows further zero mode i vs = tt
  call_grows further (suc b) mode i vs =
      rw (more_suc b further) (unchanged (function_at i functions) _ _ (λ f. if_grows (nat_eq (length vs) (length f.params)) _ _
      (meaning_grows (call_within functions b) (call_within functions (further + b)) (call_grows further b) f.body mode vs)))
    where
      more_suc : (b further : ℕ) → further + suc b ≡ suc (further + b)
      more_suc b further = omega arith

  pub outputs_grow : (system : System ℕ ℕ) (further b : ℕ) (inputs : List Val) → Grows (outputs_within functions system b inputs) (outputs_within functions system (further + b) inputs)
  outputs_grow system further b inputs = system_grows (call_within functions b) (call_within functions (further + b)) (call_grows further b) system inputs
