-- What a flat term gives: a value, what a state action does, or the trace of a device. By recursion on the term, over what calls give.
use Rattle.std.specs.Prelude.{ℕ, zero, suc, nat_eq, Bool, true, false, List, [], ◌∷◌, ◌++◌, Option, Some, None, if◌then◌else◌}
use Rattle.rw_core.specs.Values.{Val, Vals, val, none, more, vals}
use Rattle.rw_core.specs.Options.{◌>>=◌}
use Rattle.rw_core.specs.Traces.{End, Trace, silent, signalled, and_on, without_state}
use Rattle.rw_meaning.specs.Options.{Tried, stuck, passed_over, taken, and_try, or_try, tried, what_is_taken}
use Rattle.rw_core_flat.specs.Terms.{FlatPattern, any_pattern, bound_pattern, built_pattern, FlatPatterns, no_patterns, more_patterns}
use Rattle.rw_core_flat.specs.Terms.{FlatTerm, local_term, built_term, case_term, let_term, call_term, mark_term, return_term, get_term, put_term, lift_term, bind_term, signal_term, extrude_term, FlatTerms, no_terms, more_terms}
use Rattle.rw_core_flat.specs.Terms.{FlatLets, no_lets, more_lets, FlatRows, no_rows, more_rows, FlatArms, body_arm, no_arms, more_arms}

-- == What is asked, and what is answered ==

-- what is asked of a term: its value; what it does to these states, the innermost layer last; or its trace over these states and inputs
pub data Mode : Type 0 where
  valued : Mode
  acting : List Val → Mode
  tracing : List Val → List Val → Mode

-- the answer: a value; a value and the states after it; or a trace, its outputs and its end
pub data Answer : Type 0 where
  a_value : Val → Answer
  done : Val → List Val → Answer
  traced : List Val → End Val (List Val) → Answer

abbrev pub as_value : Answer → Option Val
as_value (a_value v) = Some v
as_value _ = None

abbrev pub as_trace : Answer → Option (Trace Val (List Val))
as_trace (traced outputs end) = Some (record { outputs = outputs; end = end })
as_trace _ = None

abbrev pub of_trace : Trace Val (List Val) → Answer
of_trace t = traced t.outputs t.end

-- the states below the first layer
abbrev pub below : List Val → Option (List Val)
below [] = None
below (s ∷ states) = Some states

-- == Operations, over what is asked ==

-- an action that gives a value and does nothing
abbrev pub returned : Mode → Val → Option Answer
returned valued v = None
returned (acting states) v = Some (done v states)
returned (tracing states inputs) v = Some (of_trace (silent v states inputs))

abbrev pub got : Mode → Option Answer
got (acting (s ∷ states)) = Some (done s (s ∷ states))
got _ = None

abbrev pub stored : Mode → Val → Option Answer
stored (acting (s ∷ states)) v = Some (done (val 0 none) (v ∷ states))
stored _ v = None

abbrev pub shown_as_signal : Mode → Val → Option Answer
shown_as_signal (tracing states inputs) v = Some (of_trace (signalled (λ i. i) v states inputs))
shown_as_signal _ v = None

-- after an answer: what comes next starts with its value, in its states
abbrev pub goes_on : Answer → (Mode → Val → Option Answer) → Option Answer
goes_on (a_value v) next = None
goes_on (done v states) next = next (acting states) v
goes_on (traced outputs end) next = do
  t ← and_on outputs end (λ v states inputs. next (tracing states inputs) v >>= as_trace)
  Some (of_trace t)

-- a state action below the first layer
abbrev pub above : Val → Answer → Option Answer
above s (done v others) = Some (done v (s ∷ others))
above s _ = None

-- a state action as a device that shows nothing
abbrev pub silently : List Val → Answer → Option Answer
silently inputs (done v others) = Some (of_trace (silent v others inputs))
silently inputs _ = None

abbrev pub lifted : Mode → (Mode → Option Answer) → Option Answer
lifted valued again = None
lifted (acting []) again = None
lifted (acting (s ∷ states)) again = again (acting states) >>= above s
lifted (tracing states inputs) again = again (acting states) >>= silently inputs

-- a device with one layer more, which starts with this state and is dropped at the end
abbrev pub extruded : Mode → Val → (Mode → Option Answer) → Option Answer
extruded (tracing states inputs) s again = do
  t ← again (tracing (s ∷ states) inputs) >>= as_trace
  u ← without_state below t.outputs t.end
  Some (of_trace u)
extruded _ s again = None

-- == Matching ==

-- a test: `False` and `True` are the constructors with places 0 and 1
abbrev pub if_holds : {A : Type 0} → Val → A → A → A → A
if_holds (val zero fields) first second wrong = second
if_holds (val (suc zero) fields) first second wrong = first
if_holds (val (suc (suc n)) fields) first second wrong = wrong

-- as many patterns as values
abbrev pub are_as_many : FlatPatterns → Vals → Bool
are_as_many no_patterns none = true
are_as_many (more_patterns p ps) (more v vs) = are_as_many ps vs
are_as_many _ _ = false

-- what the pattern's variables stand for, from left to right. How many fields there are is asked before the first is looked at
abbrev mutual
  pub matched : FlatPattern → Val → Tried (List Val)
  matched any_pattern v = taken []
  matched bound_pattern v = taken (v ∷ [])
  matched (built_pattern place pats) (val tag fields) = if nat_eq tag place then (if are_as_many pats fields then parts_matched pats fields else stuck) else passed_over

  pub parts_matched : FlatPatterns → Vals → Tried (List Val)
  parts_matched no_patterns none = taken []
  parts_matched (more_patterns p ps) (more v vs) = and_try (matched p v) (λ xs. and_try (parts_matched ps vs) (λ ys. taken (xs ++ ys)))
  parts_matched _ _ = stuck

-- a row matches as the fields of a constructor do
abbrev pub row_matched : FlatPatterns → List Val → Tried (List Val)
row_matched ps vs = if are_as_many ps (vals vs) then parts_matched ps (vals vs) else stuck

-- == Terms ==

-- the value of a variable
abbrev pub value_at : ℕ → List Val → Option Val
value_at k [] = None
value_at zero (v ∷ vs) = Some v
value_at (suc k) (v ∷ vs) = value_at k vs

-- over what a call gives: by what is asked, the number of the function and its arguments. An environment has the values of all variables
module _ (calls : Mode → ℕ → List Val → Option Answer) where
  abbrev mutual
    pub meaning : FlatTerm → Mode → List Val → Option Answer
    meaning (local_term k) valued env = do v ← value_at k env; Some (a_value v)
    meaning (local_term k) (acting states) env = None
    meaning (local_term k) (tracing states inputs) env = None
    meaning (built_term type place ts) valued env = do vs ← values ts env; Some (a_value (val place (vals vs)))
    meaning (built_term type place ts) (acting states) env = None
    meaning (built_term type place ts) (tracing states inputs) env = None
    meaning (case_term ts rows) mode env = do vs ← values ts env; what_is_taken (rows_meaning rows mode env vs)
    meaning (let_term lets t) mode env = do inner ← bound lets env; meaning t mode inner
    meaning (call_term i ts) mode env = do vs ← values ts env; calls mode i vs
    meaning (mark_term t) mode env = meaning t mode env
    meaning (return_term t) mode env = do v ← meaning t valued env >>= as_value; returned mode v
    meaning get_term mode env = got mode
    meaning (put_term t) mode env = do v ← meaning t valued env >>= as_value; stored mode v
    meaning (lift_term t) mode env = lifted mode (λ m. meaning t m env)
    meaning (bind_term t u) mode env = do a ← meaning t mode env; goes_on a (λ m v. meaning u m (env ++ v ∷ []))
    meaning (signal_term t) mode env = do v ← meaning t valued env >>= as_value; shown_as_signal mode v
    meaning (extrude_term t u) mode env = do s ← meaning u valued env >>= as_value; extruded mode s (λ m. meaning t m env)

    pub values : FlatTerms → List Val → Option (List Val)
    values no_terms env = Some []
    values (more_terms t ts) env = do v ← meaning t valued env >>= as_value; vs ← values ts env; Some (v ∷ vs)

    -- the environment after bindings
    pub bound : FlatLets → List Val → Option (List Val)
    bound no_lets env = Some env
    bound (more_lets p t others) env = do v ← meaning t valued env >>= as_value; xs ← what_is_taken (matched p v); bound others (env ++ xs)

    -- the first row that is taken
    pub rows_meaning : FlatRows → Mode → List Val → List Val → Tried Answer
    rows_meaning no_rows mode env vs = passed_over
    rows_meaning (more_rows ps lets arms others) mode env vs =
        or_try (and_try (row_matched ps vs) (λ xs. and_try (tried (bound lets (env ++ xs))) (λ inner. arms_meaning arms mode inner))) (rows_meaning others mode env vs)

    pub arms_meaning : FlatArms → Mode → List Val → Tried Answer
    arms_meaning (body_arm t) mode env = tried (meaning t mode env)
    arms_meaning no_arms mode env = passed_over
    arms_meaning (more_arms g t others) mode env =
        and_try (tried (meaning g valued env >>= as_value)) (λ v. if_holds v (tried (meaning t mode env)) (arms_meaning others mode env) stuck)
