-- What is asked of a term of a kind, which answers fit, and how answers go on.
use Rattle.std.proofs.Common.{◌≡◌, ℕ, suc, ◌+◌, ◌≤◌, ◌<◌, List, [], ◌∷◌, ◌++◌, length, Option, Some, ◌⊎◌, inl, inr, refl, arith, ap, ◌∙◌}
use Rattle.std.proofs.lemmas.List.{length-append}
use Rattle.rw_core.specs.Values.{Val, val, none}
use Rattle.rw_core.specs.Options.{◌>>=◌}
use Rattle.rw_core.specs.Traces.{End, waits, finished, without_state}
use Rattle.rw_core_flat.specs.Meaning.{Mode, valued, acting, tracing, Answer, a_value, done, traced, as_value, as_trace, of_trace, below, returned, got, stored, shown_as_signal, goes_on, above, silently, lifted, extruded}
use Rattle.std.specs.List.{AllByRecursion}
use Rattle.rw_core_flat.specs.WellTyped.{Monad, state, device, Kind, of_data, doing, DataTypes, Fits, AllFit}
use Rattle.rw_guard_laws.proofs.Parts.{every_joined}

-- the inputs that are left
abbrev pub left : Mode → ℕ
left valued = 0
left (acting states) = 0
left (tracing states inputs) = length inputs

-- a device that is finished has used an input; nothing else is an answer of what is must-signal
abbrev pub Fewer : ℕ → Answer → Type 0
Fewer n (a_value v) = ⊥
Fewer n (done v states) = ⊥
Fewer n (traced outputs waits) = Unit {0}
Fewer n (traced outputs (finished v states rest)) = length rest < n

module _ (types : DataTypes) where
  abbrev pub Asked : Kind → Mode → Type 0
  Asked (of_data d) valued = Unit {0}
  Asked (of_data d) (acting states) = ⊥
  Asked (of_data d) (tracing states inputs) = ⊥
  Asked (doing state layers d) valued = ⊥
  Asked (doing state layers d) (acting states) = AllFit types layers states
  Asked (doing state layers d) (tracing states inputs) = ⊥
  Asked (doing (device i o) layers d) valued = ⊥
  Asked (doing (device i o) layers d) (acting states) = ⊥
  Asked (doing (device i o) layers d) (tracing states inputs) = AllFit types layers states × AllByRecursion (Fits types i) inputs

  -- an answer that fits, for so many inputs
  abbrev pub Answers : Kind → ℕ → Answer → Type 0
  Answers (of_data d) n (a_value v) = Fits types d v
  Answers (of_data d) n (done v states) = ⊥
  Answers (of_data d) n (traced outputs end) = ⊥
  Answers (doing state layers d) n (a_value v) = ⊥
  Answers (doing state layers d) n (done v states) = Fits types d v × AllFit types layers states
  Answers (doing state layers d) n (traced outputs end) = ⊥
  Answers (doing (device i o) layers d) n (a_value v) = ⊥
  Answers (doing (device i o) layers d) n (done v states) = ⊥
  Answers (doing (device i o) layers d) n (traced outputs waits) = AllByRecursion (Fits types o) outputs × (length outputs ≡ suc n)
  Answers (doing (device i o) layers d) n (traced outputs (finished v states rest)) =
      AllByRecursion (Fits types o) outputs × (length outputs + length rest ≡ n) × Fits types d v × AllFit types layers states × AllByRecursion (Fits types i) rest

  -- there is an answer, it fits, and what is must-signal uses an input before it is finished
  pub record Goes (k : Kind) (n : ℕ) (S : Type 0) (Is : Answer → Type 0) : Type 0 where
    pub answer : Answer
    pub gives : Is answer
    pub fits : Answers k n answer
    pub fewer : S → Fewer n answer

  abbrev pub Gives : Kind → ℕ → Type 0 → Option Answer → Type 0
  Gives k n S x = Goes k n S (λ a. x ≡ Some a)

  pub with_reason : (k : Kind) (n : ℕ) (S S' : Type 0) (x : Option Answer) → (S' → S) → Gives k n S x → Gives k n S' x
  with_reason k n S S' x f g = record { answer = g.answer; gives = g.gives; fits = g.fits; fewer = λ s. g.fewer (f s) }

  -- == Values ==

  a_valued : (d n : ℕ) (x : Option Answer) (a : Answer) → x ≡ Some a → Answers (of_data d) n a → (v : Val) × ((x >>= as_value) ≡ Some v) × Fits types d v
  a_valued d n x (a_value v) e h = (v, rw e refl, h)
  a_valued d n x (done v states) e h = absurd h
  a_valued d n x (traced outputs end) e h = absurd h

  pub value_of : (d n : ℕ) (S : Type 0) (x : Option Answer) → Gives (of_data d) n S x → (v : Val) × ((x >>= as_value) ≡ Some v) × Fits types d v
  value_of d n S x g = a_valued d n x g.answer g.gives g.fits

  -- == What shows nothing ==

  pub return_goes : (m : Monad) (layers : List ℕ) (d : ℕ) (S : Type 0) → (S → ⊥) → (v : Val) → Fits types d v → (mode : Mode) → Asked (doing m layers d) mode → Gives (doing m layers d) (left mode) S (returned mode v)
  return_goes state layers d S never v f valued a = absurd a
  return_goes state layers d S never v f (acting states) a = record { answer = done v states; gives = refl; fits = (f, a); fewer = λ s. absurd (never s) }
  return_goes state layers d S never v f (tracing states inputs) a = absurd a
  return_goes (device i o) layers d S never v f valued a = absurd a
  return_goes (device i o) layers d S never v f (acting states) a = absurd a
  return_goes (device i o) layers d S never v f (tracing states inputs) a =
      record { answer = traced [] (finished v states inputs); gives = refl; fits = (tt, omega arith, f, a.0, a.1); fewer = λ s. absurd (never s) }

  pub get_goes : (s : ℕ) (layers : List ℕ) (S : Type 0) → (S → ⊥) → (mode : Mode) → Asked (doing state (s ∷ layers) s) mode → Gives (doing state (s ∷ layers) s) (left mode) S (got mode)
  get_goes s layers S never valued a = absurd a
  get_goes s layers S never (acting []) a = absurd a
  get_goes s layers S never (acting (v ∷ states)) a = record { answer = done v (v ∷ states); gives = refl; fits = (a.0, a); fewer = λ s. absurd (never s) }
  get_goes s layers S never (tracing states inputs) a = absurd a

  pub put_goes : (s : ℕ) (layers : List ℕ) (d : ℕ) (S : Type 0) → (S → ⊥) → d ≡ types.unit → (v : Val) → Fits types s v → (mode : Mode) → Asked (doing state (s ∷ layers) d) mode → Gives (doing state (s ∷ layers) d) (left mode) S (stored mode v)
  put_goes s layers d S never e v f valued a = absurd a
  put_goes s layers d S never e v f (acting []) a = absurd a
  put_goes s layers d S never e v f (acting (w ∷ states)) a =
      record { answer = done (val 0 none) (v ∷ states); gives = refl; fits = (([], ap (λ z. types.fields z 0) e ∙ types.units, tt), (f, a.1)); fewer = λ s. absurd (never s) }
  put_goes s layers d S never e v f (tracing states inputs) a = absurd a

  above_goes : (s : ℕ) (layers : List ℕ) (d : ℕ) (S : Type 0) → (S → ⊥) → (v : Val) → Fits types s v → (x : Option Answer) (a : Answer) → x ≡ Some a → Answers (doing state layers d) 0 a
      → Gives (doing state (s ∷ layers) d) 0 S (x >>= above v)
  above_goes s layers d S never v f x (a_value w) e h = absurd h
  above_goes s layers d S never v f x (done w others) e h = record { answer = done w (v ∷ others); gives = rw e refl; fits = (h.0, (f, h.1)); fewer = λ s. absurd (never s) }
  above_goes s layers d S never v f x (traced outputs end) e h = absurd h

  pub lift_acts : (s : ℕ) (layers : List ℕ) (d : ℕ) (S S' : Type 0) → (S → ⊥) → (again : Mode → Option Answer) → ((states : List Val) → AllFit types layers states → Gives (doing state layers d) 0 S' (again (acting states)))
      → (mode : Mode) → Asked (doing state (s ∷ layers) d) mode → Gives (doing state (s ∷ layers) d) (left mode) S (lifted mode again)
  lift_acts s layers d S S' never again k valued a = absurd a
  lift_acts s layers d S S' never again k (acting []) a = absurd a
  lift_acts s layers d S S' never again k (acting (v ∷ states)) a = let g = k states a.1 in above_goes s layers d S never v a.0 (again (acting states)) g.answer g.gives g.fits
  lift_acts s layers d S S' never again k (tracing states inputs) a = absurd a

  silent_goes : (i o : ℕ) (layers : List ℕ) (d : ℕ) (S : Type 0) → (S → ⊥) → (inputs : List Val) → AllByRecursion (Fits types i) inputs → (x : Option Answer) (a : Answer) → x ≡ Some a → Answers (doing state layers d) 0 a
      → Gives (doing (device i o) layers d) (length inputs) S (x >>= silently inputs)
  silent_goes i o layers d S never inputs f x (a_value w) e h = absurd h
  silent_goes i o layers d S never inputs f x (done w others) e h =
      record { answer = traced [] (finished w others inputs); gives = rw e refl; fits = (tt, omega arith, h.0, h.1, f); fewer = λ s. absurd (never s) }
  silent_goes i o layers d S never inputs f x (traced outputs end) e h = absurd h

  pub lift_traces : (i o : ℕ) (layers : List ℕ) (d : ℕ) (S S' : Type 0) → (S → ⊥) → (again : Mode → Option Answer) → ((states : List Val) → AllFit types layers states → Gives (doing state layers d) 0 S' (again (acting states)))
      → (mode : Mode) → Asked (doing (device i o) layers d) mode → Gives (doing (device i o) layers d) (left mode) S (lifted mode again)
  lift_traces i o layers d S S' never again k valued a = absurd a
  lift_traces i o layers d S S' never again k (acting states) a = absurd a
  lift_traces i o layers d S S' never again k (tracing states inputs) a = let g = k states a.0 in silent_goes i o layers d S never inputs a.1 (again (acting states)) g.answer g.gives g.fits

  -- == Signal and extrude ==

  pub signal_goes : (i o : ℕ) (layers : List ℕ) (S : Type 0) (v : Val) → Fits types o v → (mode : Mode) → Asked (doing (device i o) layers i) mode → Gives (doing (device i o) layers i) (left mode) S (shown_as_signal mode v)
  signal_goes i o layers S v f valued a = absurd a
  signal_goes i o layers S v f (acting states) a = absurd a
  signal_goes i o layers S v f (tracing states []) a = record { answer = traced (v ∷ []) waits; gives = refl; fits = ((f, tt), refl); fewer = λ s. tt }
  signal_goes i o layers S v f (tracing states (w ∷ inputs)) a =
      record { answer = traced (v ∷ []) (finished w states inputs); gives = refl; fits = ((f, tt), omega arith, a.1.0, a.0, a.1.1); fewer = λ s. omega arith }

  drop_goes : (i o s : ℕ) (layers : List ℕ) (d n : ℕ) (S : Type 0) → (x : Option Answer) (a : Answer) → x ≡ Some a → Answers (doing (device i o) (s ∷ layers) d) n a → (S → Fewer n a) → Gives (doing (device i o) layers d) n S (x >>= as_trace >>= λ t. without_state below t.outputs t.end >>= λ u. Some (of_trace u))
  drop_goes i o s layers d n S x (a_value v) e h k = absurd h
  drop_goes i o s layers d n S x (done v states) e h k = absurd h
  drop_goes i o s layers d n S x (traced outputs waits) e h k = record { answer = traced outputs waits; gives = rw e refl; fits = h; fewer = k }
  drop_goes i o s layers d n S x (traced outputs (finished v [] rest)) e h k = absurd (h.3)
  drop_goes i o s layers d n S x (traced outputs (finished v (w ∷ states) rest)) e h k =
      record { answer = traced outputs (finished v states rest); gives = rw e refl; fits = (h.0, h.1, h.2, h.3.1, h.4); fewer = k }

  pub extrude_goes : (i o s : ℕ) (layers : List ℕ) (d : ℕ) (S : Type 0) (v : Val) → Fits types s v → (again : Mode → Option Answer) (mode : Mode)
      → ((states inputs : List Val) → AllFit types (s ∷ layers) states → AllByRecursion (Fits types i) inputs → length inputs ≤ left mode → Gives (doing (device i o) (s ∷ layers) d) (length inputs) S (again (tracing states inputs)))
      → Asked (doing (device i o) layers d) mode → Gives (doing (device i o) layers d) (left mode) S (extruded mode v again)
  extrude_goes i o s layers d S v f again valued k a = absurd a
  extrude_goes i o s layers d S v f again (acting states) k a = absurd a
  extrude_goes i o s layers d S v f again (tracing states inputs) k a =
      let g = k (v ∷ states) inputs (f, a.0) a.1 (omega arith) in drop_goes i o s layers d (length inputs) S (again (tracing (v ∷ states) inputs)) g.answer g.gives g.fits g.fewer

  -- == Binds ==

  acted_on : (layers : List ℕ) (b d : ℕ) (S T U : Type 0) → (S → T ⊎ U) → (x : Option Answer) (next : Mode → Val → Option Answer) (a : Answer) → x ≡ Some a → Answers (doing state layers b) 0 a → (T → Fewer 0 a)
      → ((v : Val) (states : List Val) → Fits types b v → AllFit types layers states → (T → ⊥) → Gives (doing state layers d) 0 U (next (acting states) v))
      → Gives (doing state layers d) 0 S (x >>= λ a. goes_on a next)
  acted_on layers b d S T U why x next (a_value v) e h f k = absurd h
  acted_on layers b d S T U why x next (done v states) e h f k = then_done (k v states h.0 h.1 f)
    where
      done_by : (c : Answer) → next (acting states) v ≡ Some c → Answers (doing state layers d) 0 c → (U → Fewer 0 c) → Gives (doing state layers d) 0 S (x >>= λ a. goes_on a next)
      done_by (a_value w) i j l = absurd j
      done_by (done w others) i j l = record { answer = done w others; gives = rw e i; fits = j; fewer = λ s. elim (why s) [ inl t ↦ f t | inr u ↦ l u ] }
      done_by (traced outputs end) i j l = absurd j

      then_done : Gives (doing state layers d) 0 U (next (acting states) v) → Gives (doing state layers d) 0 S (x >>= λ a. goes_on a next)
      then_done g = done_by g.answer g.gives g.fits g.fewer
  acted_on layers b d S T U why x next (traced outputs end) e h f k = absurd h

  goes_after : (x y : Option Answer) (next : Mode → Val → Option Answer) (outputs others : List Val) (v : Val) (states rest : List Val) (end : End Val (List Val)) → x ≡ Some (traced outputs (finished v states rest))
      → next (tracing states rest) v ≡ Some (traced others end) → (x >>= λ a. goes_on a next) ≡ Some (traced (outputs ++ others) end)
  goes_after x y next outputs others v states rest end e h = rw (e, h) refl

  traced_on : (i o : ℕ) (layers : List ℕ) (b d n : ℕ) (S T U : Type 0) → (S → T ⊎ U) → (x : Option Answer) (next : Mode → Val → Option Answer) (a : Answer) → x ≡ Some a → Answers (doing (device i o) layers b) n a → (T → Fewer n a)
      → ((v : Val) (states rest : List Val) → Fits types b v → AllFit types layers states → AllByRecursion (Fits types i) rest → length rest ≤ n → (T → length rest < n) → Gives (doing (device i o) layers d) (length rest) U (next (tracing states rest) v))
      → Gives (doing (device i o) layers d) n S (x >>= λ a. goes_on a next)
  traced_on i o layers b d n S T U why x next (a_value v) e h f k = absurd h
  traced_on i o layers b d n S T U why x next (done v states) e h f k = absurd h
  traced_on i o layers b d n S T U why x next (traced outputs waits) e h f k = record { answer = traced outputs waits; gives = rw e refl; fits = h; fewer = λ s. tt }
  traced_on i o layers b d n S T U why x next (traced outputs (finished v states rest)) e h f k = then_traced (k v states rest h.2 h.3 h.4 (omega (arith, h.1)) f)
    where
      traced_as : (c : Answer) → next (tracing states rest) v ≡ Some c → Answers (doing (device i o) layers d) (length rest) c → (U → Fewer (length rest) c) → Gives (doing (device i o) layers d) n S (x >>= λ a. goes_on a next)
      traced_as (a_value w) p q l = absurd q
      traced_as (done w others) p q l = absurd q
      traced_as (traced others waits) p q l = record {
        answer = traced (outputs ++ others) waits;
        gives = goes_after x x next outputs others v states rest waits e p;
        fits = (every_joined (Fits types o) outputs others h.0 q.0, omega (arith, length-append outputs others, h.1, q.1));
        fewer = λ s. tt;
      }
      traced_as (traced others (finished w states' rest')) p q l = record {
        answer = traced (outputs ++ others) (finished w states' rest');
        gives = goes_after x x next outputs others v states rest (finished w states' rest') e p;
        fits = (every_joined (Fits types o) outputs others h.0 q.0, omega (arith, length-append outputs others, h.1, q.1), q.2, q.3, q.4);
        fewer = λ s. elim (why s) [ inl t ↦ (let less = f t in omega (arith, less, q.1)) | inr u ↦ (let less = l u in omega (arith, less, h.1)) ];
      }

      then_traced : Gives (doing (device i o) layers d) (length rest) U (next (tracing states rest) v) → Gives (doing (device i o) layers d) n S (x >>= λ a. goes_on a next)
      then_traced g = traced_as g.answer g.gives g.fits g.fewer

  -- what comes after the first part starts with fewer inputs, or the first part isn't must-signal
  pub bind_goes : (m : Monad) (layers : List ℕ) (b d : ℕ) (S T U : Type 0) → (S → T ⊎ U) → (mode : Mode) (x : Option Answer) (next : Mode → Val → Option Answer) → Asked (doing m layers d) mode
      → (Asked (doing m layers b) mode → Gives (doing m layers b) (left mode) T x)
      → ((mode' : Mode) (v : Val) → Asked (doing m layers d) mode' → Fits types b v → left mode' ≤ left mode → (T → left mode' < left mode) → Gives (doing m layers d) (left mode') U (next mode' v))
      → Gives (doing m layers d) (left mode) S (x >>= λ a. goes_on a next)
  bind_goes state layers b d S T U why valued x next a h k = absurd a
  bind_goes state layers b d S T U why (acting states) x next a h k =
      let g = h a in acted_on layers b d S T U why x next g.answer g.gives g.fits g.fewer (λ v states' f s never. k (acting states') v s f (omega arith) (λ t. absurd (never t)))
  bind_goes state layers b d S T U why (tracing states inputs) x next a h k = absurd a
  bind_goes (device i o) layers b d S T U why valued x next a h k = absurd a
  bind_goes (device i o) layers b d S T U why (acting states) x next a h k = absurd a
  bind_goes (device i o) layers b d S T U why (tracing states inputs) x next a h k =
      let g = h a in traced_on i o layers b d (length inputs) S T U why x next g.answer g.gives g.fits g.fewer (λ v states' rest f s r le fewer. k (tracing states' rest) v (s, r) f le fewer)
