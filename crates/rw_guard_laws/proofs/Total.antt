-- A well-typed term has an answer that fits, over calls that do; what may be called falls with the inputs that are left.
use Rattle.std.proofs.Common.{◌≡◌, ℕ, zero, suc, ◌≤◌, ◌<◌, List, [], ◌∷◌, ◌++◌, length, Option, Some, None, ◌⊎◌, inl, inr, refl, arith, ap, sym, ◌∙◌, subst}
use Rattle.std.proofs.lemmas.Bool.{cases_lt}
use Rattle.rw_core.specs.Values.{Val, Vals, val, none, vals}
use Rattle.rw_core.specs.Options.{◌>>=◌}
use Rattle.rw_meaning.specs.Options.{Tried, stuck, passed_over, taken, and_try, or_try, tried, what_is_taken}
use Rattle.rw_core_flat.specs.Terms.{FlatPatterns}
use Rattle.rw_core_flat.specs.Terms.{FlatTerm, local_term, built_term, case_term, let_term, call_term, mark_term, return_term, get_term, put_term, lift_term, bind_term, extrude_term, FlatTerms, no_terms}
use Rattle.rw_core_flat.specs.Terms.{FlatLets, FlatRows, more_rows, FlatArms, body_arm, more_arms}
use Rattle.rw_core_flat.specs.Meaning.{Mode, valued, acting, tracing, Answer, a_value, as_value, returned, stored, shown_as_signal, extruded, if_holds, row_matched, meaning, values, bound, rows_meaning, arms_meaning}
use Rattle.rw_core_flat.specs.Programs.{FlatFunction, function_at}
use Rattle.rw_guard_rules.specs.Signals.{Signals, signals_left, signals_right, signals_case, signals_let, signals_mark, signals_call, signals_extrude, RowsSignal, each_row, ArmsSignal, the_body, each_arm}
use Rattle.std.specs.List.{AllByRecursion}
use Rattle.rw_guard_rules.specs.Signals.{Step, right_of, inward, aside, Held, calls_in, calls_in_all, calls_in_lets, calls_in_rows, calls_in_arms, Guarded}
use Rattle.rw_core_flat.specs.WellTyped.{Kind, of_data, Sign, DataTypes, Fits, AllFit, type_at, IsTrueTerm, EndsOpen, Matched}
use Rattle.rw_core_flat.specs.WellTyped.{Typed, is_local, is_con, is_case, is_let, is_call, is_mark, is_return, is_get, is_put, lifts_state, lifts_device, is_bind, is_signal, is_extrude, AllTyped, no_typed, more_typed}
use Rattle.rw_core_flat.specs.WellTyped.{LetsTyped, no_lets_typed, more_lets_typed, RowsTyped, no_rows_typed, more_rows_typed, ArmsTyped, body_typed, no_arms_typed, more_arms_typed}
use Rattle.rw_guard_laws.proofs.Parts.{first, second, all_joined, looked_up, as_fields, Matches, pattern_matches, row_matches}
use Rattle.rw_guard_laws.proofs.Answering.{left, Asked, Goes, Gives, with_reason, value_of, return_goes, get_goes, put_goes, lift_acts, lift_traces, signal_goes, extrude_goes, bind_goes}

-- what is must-signal, by its form
bind_signals : {flat_functions : List FlatFunction} {t u : FlatTerm} → Signals flat_functions (bind_term t u) → Signals flat_functions t ⊎ Signals flat_functions u
bind_signals (signals_left s) = inl s
bind_signals (signals_right s) = inr s

case_signals : {flat_functions : List FlatFunction} {ts : FlatTerms} {rows : FlatRows} → Signals flat_functions (case_term ts rows) → RowsSignal flat_functions rows
case_signals (signals_case s) = s

let_signals : {flat_functions : List FlatFunction} {lets : FlatLets} {t : FlatTerm} → Signals flat_functions (let_term lets t) → Signals flat_functions t
let_signals (signals_let s) = s

mark_signals : {flat_functions : List FlatFunction} {t : FlatTerm} → Signals flat_functions (mark_term t) → Signals flat_functions t
mark_signals (signals_mark s) = s

extrude_signals : {flat_functions : List FlatFunction} {d s : FlatTerm} → Signals flat_functions (extrude_term d s) → Signals flat_functions d
extrude_signals (signals_extrude s) = s

abbrev pub BodySignals : List FlatFunction → ℕ → Type 0
BodySignals flat_functions i = (f : FlatFunction) × (function_at i flat_functions ≡ Some f) × Signals flat_functions f.body

call_signals : {flat_functions : List FlatFunction} {i : ℕ} {ts : FlatTerms} → Signals flat_functions (call_term i ts) → BodySignals flat_functions i
call_signals (signals_call f e s) = (f, e, s)

return_silent : {flat_functions : List FlatFunction} {t : FlatTerm} → Signals flat_functions (return_term t) → ⊥
return_silent s = elim s [ ]

get_silent : {flat_functions : List FlatFunction} → Signals flat_functions get_term → ⊥
get_silent s = elim s [ ]

put_silent : {flat_functions : List FlatFunction} {t : FlatTerm} → Signals flat_functions (put_term t) → ⊥
put_silent s = elim s [ ]

lift_silent : {flat_functions : List FlatFunction} {t : FlatTerm} → Signals flat_functions (lift_term t) → ⊥
lift_silent s = elim s [ ]

local_silent : {flat_functions : List FlatFunction} {k : ℕ} → Signals flat_functions (local_term k) → ⊥
local_silent s = elim s [ ]

con_silent : {flat_functions : List FlatFunction} {type place : ℕ} {ts : FlatTerms} → Signals flat_functions (built_term type place ts) → ⊥
con_silent s = elim s [ ]

body_signals : {flat_functions : List FlatFunction} {t : FlatTerm} → ArmsSignal flat_functions (body_arm t) → Signals flat_functions t
body_signals (the_body s) = s

arm_signals : {flat_functions : List FlatFunction} {g t : FlatTerm} {others : FlatArms} → ArmsSignal flat_functions (more_arms g t others) → Signals flat_functions t × ArmsSignal flat_functions others
arm_signals (each_arm s r) = (s, r)

row_signals : {flat_functions : List FlatFunction} {ps : FlatPatterns} {lets : FlatLets} {arms : FlatArms} {others : FlatRows} → RowsSignal flat_functions (more_rows ps lets arms others) → ArmsSignal flat_functions arms × RowsSignal flat_functions others
row_signals (each_row s r) = (s, r)

-- == Over calls ==

module _ (types : DataTypes) (flat_functions : List FlatFunction) (signs : ℕ → Option Sign) (calls : Mode → ℕ → List Val → Option Answer) (May : ℕ → ℕ → Type 0)
    (may_less : (m k i : ℕ) → m ≤ k → May k i → May m i)
    (calls_go : (i : ℕ) (s : Sign) → signs i ≡ Some s → (vs : List Val) → AllFit types s.params vs → (mode : Mode) → Asked types s.kind mode → May (left mode) i → Gives types s.kind (left mode) (BodySignals flat_functions i) (calls mode i vs))
    (true_calls : (i : ℕ) (f : FlatFunction) → function_at i flat_functions ≡ Some f → (type : ℕ) × (f.body ≡ built_term type 1 no_terms) → (a : Answer) → calls valued i [] ≡ Some a → a ≡ a_value (val 1 none))
    (n : ℕ) (below : (m i : ℕ) → m < n → May m i) where
  -- an unguarded call is one that may be made
  abbrev Open : Held → Type 0
  Open c = (Guarded flat_functions c.path → ⊥) → May n c.callee

  -- fewer inputs are left than at the start, or no guard has been passed
  abbrev Here : List Step → ℕ → Type 0
  Here path m = (m < n) ⊎ ((m ≤ n) × (Guarded flat_functions path → ⊥))

  here_less : (path : List Step) (m k : ℕ) → m ≤ k → Here path k → Here path m
  here_less path m k e (inl h) = inl (omega arith)
  here_less path m k e (inr h) = inr (omega (arith, h.0), h.1)

  here_right : (path : List Step) (t : FlatTerm) (m k : ℕ) → m ≤ k → (Signals flat_functions t → m < k) → Here path k → Here (right_of t ∷ path) m
  here_right path t m k e f (inl h) = inl (omega arith)
  here_right path t m k e f (inr h) = by_order (cases_lt m n)
    where
      by_order : (m < n) ⊎ (n ≤ m) → Here (right_of t ∷ path) m
      by_order (inl less) = inl less
      by_order (inr enough) = inr (omega (arith, h.0), λ g. elim g [ inl s ↦ (let less = f s in absurd (omega (arith, h.0))) | inr g ↦ h.1 g ])

  may_call : (path : List Step) (i m : ℕ) → Here path m → Open (record { path = path; callee = i }) → May m i
  may_call path i m (inl h) o = below m i h
  may_call path i m (inr h) o = may_less m n i h.0 (o h.1)

  -- == Tests ==

  true_con : (place : ℕ) (a : Answer) → place ≡ 1 → Some (a_value (val place none)) ≡ Some a → a ≡ a_value (val 1 none)
  true_con place a e h = let k : a_value (val place none) ≡ a = cc in sym k ∙ ap (λ z. a_value (val z none)) e

  is_true : (g : FlatTerm) → IsTrueTerm types flat_functions signs g → (env : List Val) (a : Answer) → meaning calls g valued env ≡ Some a → a ≡ a_value (val 1 none)
  is_true (built_term type place no_terms) h env a e = true_con place a h e
  is_true (call_term i no_terms) h env a e = true_calls i h.0 h.1 h.2 a e
  is_true (mark_term g) h env a e = is_true g h env a e
  is_true _ h env a e = absurd h

  zero_one : (vs : Vals) → val 0 vs ≡ val 1 none → ⊥
  zero_one vs e = cc

  -- == Arms and rows ==

  abbrev Takes : Kind → ℕ → Type 0 → Tried Answer → Type 0
  Takes k m S x = Goes types k m S (λ a. x ≡ taken a)

  abbrev ArmsGo : Kind → ℕ → Type 0 → Type 0 → Tried Answer → Type 0
  ArmsGo k m E S x = ((x ≡ passed_over) × (E → ⊥)) ⊎ Takes k m S x

  tried_goes : (k : Kind) (m : ℕ) (S S' : Type 0) (x : Option Answer) → (S' → S) → Gives types k m S x → Takes k m S' (tried x)
  tried_goes k m S S' x f g = record { answer = g.answer; gives = rw g.gives refl; fits = g.fits; fewer = λ s. g.fewer (f s) }

  tested : (x : Option Val) (v : Val) (y z w : Tried Answer) → x ≡ Some v → if_holds v y z stuck ≡ w → and_try (tried x) (λ v. if_holds v y z stuck) ≡ w
  tested x v y z w e h = rw e h

  arm_true : (k : Kind) (m : ℕ) (E S T : Type 0) (x : Option Val) (vs : Vals) (y z : Tried Answer) → x ≡ Some (val 1 vs) → (S → T) → Takes k m T y → ArmsGo k m E S (and_try (tried x) (λ v. if_holds v y z stuck))
  arm_true k m E S T x vs y z e f g = inr (record { answer = g.answer; gives = tested x (val 1 vs) y z (taken g.answer) e g.gives; fits = g.fits; fewer = λ s. g.fewer (f s) })

  arm_false : (k : Kind) (m : ℕ) (E F S T : Type 0) (x : Option Val) (vs : Vals) (y z : Tried Answer) → x ≡ Some (val 0 vs) → (S → T) → (E → F) → ArmsGo k m F T z → ArmsGo k m E S (and_try (tried x) (λ v. if_holds v y z stuck))
  arm_false k m E F S T x vs y z e f o (inl h) = inl (tested x (val 0 vs) y z passed_over e h.0, λ q. h.1 (o q))
  arm_false k m E F S T x vs y z e f o (inr g) = inr (record { answer = g.answer; gives = tested x (val 0 vs) y z (taken g.answer) e g.gives; fits = g.fits; fewer = λ s. g.fewer (f s) })

  or_taken : (x y : Tried Answer) (a : Answer) → x ≡ taken a → or_try x y ≡ taken a
  or_taken x y a e = rw e refl

  or_passed : (x y w : Tried Answer) → x ≡ passed_over → y ≡ w → or_try x y ≡ w
  or_passed x y w e h = rw e h

  in_row : (l : Option (List Val)) (inner : List Val) (arms : List Val → Tried Answer) (others w : Tried Answer) → l ≡ Some inner → or_try (arms inner) others ≡ w → or_try (and_try (tried l) arms) others ≡ w
  in_row l inner arms others w e h = rw e h

  -- a row, and those after it
  row_goes : (k : Kind) (m : ℕ) (S T U E O : Type 0) (es : List ℕ) (ms : Tried (List Val)) (l : List Val → Option (List Val)) (arms : List Val → Tried Answer) (others : Tried Answer) → (S → T × U) → Matches types es ms
      → ((xs : List Val) → AllFit types es xs → (inner : List Val) × (l xs ≡ Some inner) × ArmsGo k m E T (arms inner)) → (O → Takes k m U others) → ((xs : List Val) × (ms ≡ taken xs) × E) ⊎ O
      → Takes k m S (or_try (and_try ms (λ xs. and_try (tried (l xs)) arms)) others)
  row_goes k m S T U E O es stuck l arms others why h row next covers = absurd h
  row_goes k m S T U E O es passed_over l arms others why h row next (inl c) = absurd (let e = c.1 in cc)
  row_goes k m S T U E O es passed_over l arms others why h row next (inr c) = let g = next c in record { answer = g.answer; gives = g.gives; fits = g.fits; fewer = λ s. g.fewer ((why s).1) }
  row_goes k m S T U E O es (taken xs) l arms others why h row next covers = by_arms (row xs h) covers
    where
      after : (inner : List Val) → l xs ≡ Some inner → arms inner ≡ passed_over → Takes k m U others → Takes k m S (or_try (and_try (tried (l xs)) arms) others)
      after inner e p g = record { answer = g.answer; gives = in_row (l xs) inner arms others (taken g.answer) e (or_passed (arms inner) others (taken g.answer) p g.gives); fits = g.fits; fewer = λ s. g.fewer ((why s).1) }

      by_arms : (inner : List Val) × (l xs ≡ Some inner) × ArmsGo k m E T (arms inner) → ((ys : List Val) × (taken xs ≡ taken ys) × E) ⊎ O → Takes k m S (or_try (and_try (tried (l xs)) arms) others)
      by_arms (inner, e, inr g) c = record { answer = g.answer; gives = in_row (l xs) inner arms others (taken g.answer) e (or_taken (arms inner) others g.answer g.gives); fits = g.fits; fewer = λ s. g.fewer ((why s).0) }
      by_arms (inner, e, inl p) (inl c) = absurd (p.1 c.2)
      by_arms (inner, e, inl p) (inr c) = after inner e p.0 (next c)

  valued_by : (x : Option Answer) (v w : Val) → (x >>= as_value) ≡ Some v → ((a : Answer) → x ≡ Some a → a ≡ a_value w) → v ≡ w
  valued_by None v w e h = absurd (cc)
  valued_by (Some a) v w e h = let k = h a refl in (let j : Some w ≡ Some v = subst (λ z. as_value z ≡ Some v) k e in sym (cc))

  -- an arm with a test, and those after it
  arm_goes : (k : Kind) (m : ℕ) (S T U E F : Type 0) (x : Option Val) (v : Val) (y z : Tried Answer) → (S → T × U) → x ≡ Some v → Fits types types.truth v → ((vs : Vals) → v ≡ val 0 vs → E → F) → Takes k m T y → ArmsGo k m F U z
      → ArmsGo k m E S (and_try (tried x) (λ v. if_holds v y z stuck))
  arm_goes k m S T U E F x (val zero vs) y z why e f o g h = arm_false k m E F S U x vs y z e (λ s. (why s).1) (o vs refl) h
  arm_goes k m S T U E F x (val (suc zero) vs) y z why e f o g h = arm_true k m E S T x vs y z e (λ s. (why s).0) g
  arm_goes k m S T U E F x (val (suc (suc tag)) vs) y z why e f o g h = let p = types.truths (suc (suc tag)) f.0 f.1 in absurd (omega arith)

  -- == Terms ==

  on : {A : Type 0} (k : Kind) (m : ℕ) (S T : Type 0) (x : Option A) (f : A → Option Answer) (a : A) → (S → T) → x ≡ Some a → Gives types k m T (f a) → Gives types k m S (x >>= f)
  on k m S T x f a why e g = record { answer = g.answer; gives = rw e g.gives; fits = g.fits; fewer = λ s. g.fewer (why s) }

  case_goes : (k : Kind) (m : ℕ) (S T : Type 0) (x : Option (List Val)) (f : List Val → Tried Answer) (vs : List Val) → (S → T) → x ≡ Some vs → Takes k m T (f vs) → Gives types k m S (x >>= λ vs. what_is_taken (f vs))
  case_goes k m S T x f vs why e g = record { answer = g.answer; gives = rw (e, g.gives) refl; fits = g.fits; fewer = λ s. g.fewer (why s) }

  local_goes : (g : List ℕ) (j d : ℕ) (env : List Val) → AllFit types g env → type_at j g ≡ Some d → (mode : Mode) → Asked types (of_data d) mode → Gives types (of_data d) (left mode) (Signals flat_functions (local_term j)) (meaning calls (local_term j) mode env)
  local_goes g j d env f e valued a = let p = looked_up types j g env d f e in record { answer = a_value p.0; gives = rw p.1 refl; fits = p.2; fewer = λ s. absurd (local_silent s) }
  local_goes g j d env f e (acting states) a = absurd a
  local_goes g j d env f e (tracing states inputs) a = absurd a

  con_goes : (place d : ℕ) (ts : FlatTerms) (ds : List ℕ) (env vs : List Val) → types.fields d place ≡ Some ds → values calls ts env ≡ Some vs → AllFit types ds vs → (mode : Mode) → Asked types (of_data d) mode
      → Gives types (of_data d) (left mode) (Signals flat_functions (built_term d place ts)) (meaning calls (built_term d place ts) mode env)
  con_goes place d ts ds env vs e h f valued a = record { answer = a_value (val place (vals vs)); gives = rw h refl; fits = (ds, e, as_fields types ds vs f); fewer = λ s. absurd (con_silent s) }
  con_goes place d ts ds env vs e h f (acting states) a = absurd a
  con_goes place d ts ds env vs e h f (tracing states inputs) a = absurd a

  silent : (path : List Step) (m : ℕ) → Here path m → Here path 0
  silent path m h = here_less path 0 m (omega arith) h

  mutual
    pub term : {g : List ℕ} {t : FlatTerm} {k : Kind} → Typed types flat_functions signs g t k → (path : List Step) → AllByRecursion Open (calls_in path t) → (env : List Val) → AllFit types g env → (mode : Mode) → Asked types k mode → Here path (left mode)
        → Gives types k (left mode) (Signals flat_functions t) (meaning calls t mode env)
    term (is_local {g = g} {k = j} {d = d} e) path o env f mode a h = local_goes g j d env f e mode a
    term (is_con {place = place} {d = d} {ts = ts} ds e ty) path o env f mode a h =
        let p = all_terms ty (aside ∷ path) o env f (silent path (left mode) h) in con_goes place d ts ds env p.0 e p.1 p.2 mode a
    term (is_case {ts = ts} {rows = rows} {k = k} ds ty rs covers) path o env f mode a h =
        let p = all_terms ty (aside ∷ path) (first Open (calls_in_all (aside ∷ path) ts) (calls_in_rows path rows) o) env f (silent path (left mode) h) in
        case_goes k (left mode) _ _ (values calls ts env) (rows_meaning calls rows mode env) p.0 case_signals p.1
        (all_rows rs path (second Open (calls_in_all (aside ∷ path) ts) (calls_in_rows path rows) o) env f mode a h p.0 p.2 (covers p.0 p.2))
    term (is_let {lets = lets} {t = t} {k = k} inner ls ty) path o env f mode a h =
        let p = all_lets ls (aside ∷ path) (first Open (calls_in_lets (aside ∷ path) lets) (calls_in (inward ∷ path) t) o) env f (silent path (left mode) h) in
        on k (left mode) _ _ (bound calls lets env) (meaning calls t mode) p.0 let_signals p.1
        (term ty (inward ∷ path) (second Open (calls_in_lets (aside ∷ path) lets) (calls_in (inward ∷ path) t) o) p.0 p.2 mode a h)
    term (is_call {i = i} {ts = ts} {k = k} ds e ty) path o env f mode a h =
        let p = all_terms ty (aside ∷ path) o.1 env f (silent path (left mode) h) in
        on k (left mode) _ _ (values calls ts env) (calls mode i) p.0 call_signals p.1 (calls_go i (record { params = ds; kind = k }) e p.0 p.2 mode a (may_call path i (left mode) h o.0))
    term (is_mark ty) path o env f mode a h = with_reason types _ _ _ _ _ mark_signals (term ty (inward ∷ path) o env f mode a h)
    term (is_return {t = t} {m = m} {layers = layers} {d = d} ty) path o env f mode a h =
        let p = value_of types d 0 _ (meaning calls t valued env) (term ty (aside ∷ path) o env f valued tt (silent path (left mode) h)) in
        on _ (left mode) _ _ (meaning calls t valued env >>= as_value) (returned mode) p.0 (λ s. s) p.1 (return_goes types m layers d _ return_silent p.0 p.2 mode a)
    term (is_get {s = s} {layers = layers}) path o env f mode a h = get_goes types s layers _ get_silent mode a
    term (is_put {t = t} {s = s} {layers = layers} {d = d} ty e) path o env f mode a h =
        let p = value_of types s 0 _ (meaning calls t valued env) (term ty (aside ∷ path) o env f valued tt (silent path (left mode) h)) in
        on _ (left mode) _ _ (meaning calls t valued env >>= as_value) (stored mode) p.0 (λ s. s) p.1 (put_goes types s layers d _ put_silent e p.0 p.2 mode a)
    term (lifts_state {t = t} {s = s} {layers = layers} {d = d} ty) path o env f mode a h =
        lift_acts types s layers d _ _ lift_silent (λ m. meaning calls t m env) (λ states w. term ty (aside ∷ path) o env f (acting states) w (silent path (left mode) h)) mode a
    term (lifts_device {t = t} {i = i} {o = q} {layers = layers} {d = d} ty) path o env f mode a h =
        lift_traces types i q layers d _ _ lift_silent (λ m. meaning calls t m env) (λ states w. term ty (aside ∷ path) o env f (acting states) w (silent path (left mode) h)) mode a
    term (is_bind {g = g} {t = t} {u = u} {m = m} {layers = layers} {d = d} b ty uy) path o env f mode a h =
        bind_goes types m layers b d _ (Signals flat_functions t) (Signals flat_functions u) bind_signals mode (meaning calls t mode env) (λ m v. meaning calls u m (env ++ v ∷ [])) a
        (λ c. term ty (aside ∷ path) (first Open (calls_in (aside ∷ path) t) (calls_in (right_of t ∷ path) u) o) env f mode c h)
        (λ mode' v c w le fewer. term uy (right_of t ∷ path) (second Open (calls_in (aside ∷ path) t) (calls_in (right_of t ∷ path) u) o) (env ++ v ∷ []) (all_joined types g env (b ∷ []) (v ∷ []) f (w, tt)) mode' c
        (here_right path t (left mode') (left mode) le fewer h))
    term (is_signal {t = t} {i = i} {o = q} {layers = layers} ty) path o env f mode a h =
        let p = value_of types q 0 _ (meaning calls t valued env) (term ty (aside ∷ path) o env f valued tt (silent path (left mode) h)) in
        on _ (left mode) _ _ (meaning calls t valued env >>= as_value) (shown_as_signal mode) p.0 (λ s. s) p.1 (signal_goes types i q layers _ p.0 p.2 mode a)
    term (is_extrude {t = t} {u = u} {i = i} {o = q} {layers = layers} {d = d} s ty uy) path o env f mode a h =
        let p = value_of types s 0 _ (meaning calls u valued env) (term uy (aside ∷ path) (second Open (calls_in (aside ∷ path) t) (calls_in (aside ∷ path) u) o) env f valued tt (silent path (left mode) h)) in
        on _ (left mode) _ _ (meaning calls u valued env >>= as_value) (λ v. extruded mode v (λ m. meaning calls t m env)) p.0 (λ s. s) p.1
        (extrude_goes types i q s layers d _ p.0 p.2 (λ m. meaning calls t m env) mode
        (λ states inputs w e le. with_reason types _ _ _ _ _ extrude_signals (term ty (aside ∷ path) (first Open (calls_in (aside ∷ path) t) (calls_in (aside ∷ path) u) o) env f (tracing states inputs) (w, e) (here_less path (length inputs) (left mode) le h))) a)

    all_terms : {g : List ℕ} {ts : FlatTerms} {ds : List ℕ} → AllTyped types flat_functions signs g ts ds → (path : List Step) → AllByRecursion Open (calls_in_all path ts) → (env : List Val) → AllFit types g env → Here path 0
        → (vs : List Val) × (values calls ts env ≡ Some vs) × AllFit types ds vs
    all_terms no_typed path o env f h = ([], refl, tt)
    all_terms (more_typed {t = t} {ts = ts} {d = d} ty tys) path o env f h =
        let p = value_of types d 0 _ (meaning calls t valued env) (term ty path (first Open (calls_in path t) (calls_in_all path ts) o) env f valued tt h) in
        let q = all_terms tys path (second Open (calls_in path t) (calls_in_all path ts) o) env f h in
        (p.0 ∷ q.0, rw (p.1, q.1) refl, (p.2, q.2))

    all_lets : {g : List ℕ} {lets : FlatLets} {inner : List ℕ} → LetsTyped types flat_functions signs g lets inner → (path : List Step) → AllByRecursion Open (calls_in_lets path lets) → (env : List Val) → AllFit types g env → Here path 0
        → (vs : List Val) × (bound calls lets env ≡ Some vs) × AllFit types inner vs
    all_lets no_lets_typed path o env f h = (env, refl, f)
    all_lets (more_lets_typed {g = g} {p = pat} {t = t} {others = others} d ds ty e covers ls) path o env f h =
        let p = value_of types d 0 _ (meaning calls t valued env) (term ty path (first Open (calls_in path t) (calls_in_lets path others) o) env f valued tt h) in
        let c = covers p.0 p.2 in
        let m : AllFit types ds c.0 = subst (Matches types ds) c.1 (pattern_matches types pat d ds e p.0 p.2) in
        let q = all_lets ls path (second Open (calls_in path t) (calls_in_lets path others) o) (env ++ c.0) (all_joined types g env ds c.0 f m) h in
        (q.0, rw (p.1, c.1) q.1, q.2)

    all_rows : {g ds : List ℕ} {rows : FlatRows} {k : Kind} → RowsTyped types flat_functions signs g ds rows k → (path : List Step) → AllByRecursion Open (calls_in_rows path rows) → (env : List Val) → AllFit types g env → (mode : Mode) → Asked types k mode
        → Here path (left mode) → (vs : List Val) → AllFit types ds vs → Matched types flat_functions signs rows vs → Takes k (left mode) (RowsSignal flat_functions rows) (rows_meaning calls rows mode env vs)
    all_rows no_rows_typed path o env f mode a h vs w m = absurd m
    all_rows (more_rows_typed {g = g} {ds = ds} {ps = ps} {lets = lets} {arms = arms} {others = others} {k = k} es inner e ls ay rs) path o env f mode a h vs w m =
        let o1 = first Open (calls_in_lets (aside ∷ path) lets) (calls_in_arms path arms ++ calls_in_rows path others) o in
        let o2 = second Open (calls_in_lets (aside ∷ path) lets) (calls_in_arms path arms ++ calls_in_rows path others) o in
        row_goes k (left mode) _ (ArmsSignal flat_functions arms) (RowsSignal flat_functions others) (EndsOpen types flat_functions signs arms) (Matched types flat_functions signs others vs) es (row_matched ps vs) (λ xs. bound calls lets (env ++ xs)) (arms_meaning calls arms mode)
        (rows_meaning calls others mode env vs) row_signals (row_matches types ps ds es e vs w)
        (λ xs fits. let p = all_lets ls (aside ∷ path) o1 (env ++ xs) (all_joined types g env es xs f fits) (silent path (left mode) h) in
        (p.0, p.1, all_arms ay path (first Open (calls_in_arms path arms) (calls_in_rows path others) o2) p.0 p.2 mode a h))
        (λ c. all_rows rs path (second Open (calls_in_arms path arms) (calls_in_rows path others) o2) env f mode a h vs w c) m

    all_arms : {g : List ℕ} {arms : FlatArms} {k : Kind} → ArmsTyped types flat_functions signs g arms k → (path : List Step) → AllByRecursion Open (calls_in_arms path arms) → (env : List Val) → AllFit types g env → (mode : Mode) → Asked types k mode
        → Here path (left mode) → ArmsGo k (left mode) (EndsOpen types flat_functions signs arms) (ArmsSignal flat_functions arms) (arms_meaning calls arms mode env)
    all_arms (body_typed ty) path o env f mode a h = inr (tried_goes _ _ _ _ _ body_signals (term ty (inward ∷ path) o env f mode a h))
    all_arms no_arms_typed path o env f mode a h = inl (refl, λ e. e)
    all_arms (more_arms_typed {c = c} {t = t} {others = others} {k = k} cy ty ay) path o env f mode a h =
        let o1 = first Open (calls_in (aside ∷ path) c) (calls_in (inward ∷ path) t ++ calls_in_arms path others) o in
        let o2 = second Open (calls_in (aside ∷ path) c) (calls_in (inward ∷ path) t ++ calls_in_arms path others) o in
        let p = value_of types types.truth 0 _ (meaning calls c valued env) (term cy (aside ∷ path) o1 env f valued tt (silent path (left mode) h)) in
        arm_goes k (left mode) _ (Signals flat_functions t) (ArmsSignal flat_functions others) (EndsOpen types flat_functions signs (more_arms c t others)) (EndsOpen types flat_functions signs others) (meaning calls c valued env >>= as_value) p.0
        (tried (meaning calls t mode env)) (arms_meaning calls others mode env) arm_signals p.1 p.2
        (λ vs e s. elim s [ inl s ↦ (let k = sym e ∙ valued_by (meaning calls c valued env) p.0 (val 1 none) p.1 (is_true c s env) in absurd (zero_one vs k)) | inr s ↦ s ])
        (tried_goes _ _ _ _ _ (λ s. s) (term ty (inward ∷ path) (first Open (calls_in (inward ∷ path) t) (calls_in_arms path others) o2) env f mode a h))
        (all_arms ay path (second Open (calls_in (inward ∷ path) t) (calls_in_arms path others) o2) env f mode a h)
