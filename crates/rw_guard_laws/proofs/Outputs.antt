-- What the systems of a guarded flat program show: one output more than inputs, each of the type.
use Rattle.std.proofs.Common.{◌≡◌, ℕ, zero, suc, ◌+◌, ◌-◌, ◌≤◌, ◌<◌, List, [], ◌∷◌, ◌++◌, length, replicate, Option, Some, None, refl, arith, ap, sym, ◌∙◌, subst}
use Rattle.std.specs.List.{AllByRecursion}
use Rattle.std.proofs.lemmas.List.{length-append, length-replicate}
use Rattle.rw_core.specs.Values.{Val, Vals, val, none, more}
use Rattle.rw_core.specs.Options.{◌>>=◌, each, Grows}
use Rattle.rw_core.specs.Systems.{System, first_part, second_part, paired, last_of, fed, system_outputs, EachLeaf}
use Rattle.rw_core.specs.Traces.{waits, finished, last_repeated, shown}
use Rattle.rw_core_flat.specs.Terms.{local_term, call_term, no_terms, more_terms}
use Rattle.rw_core_flat.specs.Meaning.{Mode, tracing, Answer, a_value, done, traced, as_trace}
use Rattle.rw_core_flat.specs.Programs.{FlatFunction, call_within, read_by, outputs_within, FlatDenotes}
use Rattle.rw_core_flat.proofs.Growing.{outputs_grow}
use Rattle.rw_guard_rules.specs.Signals.{Signals, CallsEnd}
use Rattle.rw_core_flat.specs.WellTyped.{device, of_data, doing, Sign, DataTypes, Fits, FieldsFit, is_local, is_call, no_typed, more_typed, FunctionTyped, SystemTyped, leaf_typed, pair_typed, fed_back_typed}
use Rattle.rw_guard_laws.specs.Guarded.{IsGuarded}
use Rattle.rw_guard_laws.proofs.Parts.{every_joined}
use Rattle.rw_guard_laws.proofs.Answering.{Fewer, Answers}
use Rattle.rw_guard_laws.proofs.Ends.{room, room_le, term_goes, value_goes}

-- a list of so many that each fit
pub record Lists {A : Type 0} (P : A → Type 0) (n : ℕ) (x : Option (List A)) : Type 0 where
  pub list : List A
  pub gives : x ≡ Some list
  pub long : length list ≡ n
  pub each_is : AllByRecursion P list

each_lists : {A B : Type 0} (P : A → Type 0) (Q : B → Type 0) (f : A → Option B) → ((a : A) → P a → (b : B) × (f a ≡ Some b) × Q b) → (xs : List A) → AllByRecursion P xs → Lists Q (length xs) (each f xs)
each_lists P Q f k [] h = record { list = []; gives = refl; long = refl; each_is = tt }
each_lists P Q f k (x ∷ xs) h =
    let p = k x h.0 in
    let q = each_lists P Q f k xs h.1 in
    record { list = p.0 ∷ q.list; gives = rw (p.1, q.gives) refl; long = ap suc q.long; each_is = (p.2, q.each_is) }

copies : {A : Type 0} (P : A → Type 0) (n : ℕ) (a : A) → P a → AllByRecursion P (replicate n a)
copies P zero a h = tt
copies P (suc n) a h = (h, copies P n a h)

repeated : (P : Val → Type 0) (n : ℕ) (v : Val) (vs : List Val) → P v → AllByRecursion P vs → length vs < n → Lists P (suc n) (last_repeated n (v ∷ vs))
repeated P zero v vs p h l = absurd (omega arith)
repeated P (suc n) v [] p h l = record { list = v ∷ replicate (suc n) v; gives = refl; long = ap suc (length-replicate (suc n) v); each_is = (p, copies P (suc n) v p) }
repeated P (suc n) v (w ∷ vs) p h l =
    let q = repeated P n w vs h.0 h.1 (omega arith) in
    record { list = v ∷ q.list; gives = rw q.gives refl; long = ap suc q.long; each_is = (p, q.each_is) }

the_last : (P : Val → Type 0) (vs : List Val) (n : ℕ) → length vs ≡ suc n → AllByRecursion P vs → (v : Val) × (last_of vs ≡ Some v) × P v
the_last P [] n e h = absurd (omega (arith, e))
the_last P (v ∷ []) n e h = (v, refl, h.0)
the_last P (v ∷ w ∷ vs) n e h = the_last P (w ∷ vs) (length vs) refl h.1

module _ (types : DataTypes) where
  -- what must-signal devices show
  shows : (i o : ℕ) (layers : List ℕ) (d n : ℕ) (x : Option Answer) (a : Answer) → x ≡ Some a → Answers types (doing (device i o) layers d) n a → Fewer n a → Lists (Fits types o) (suc n) (x >>= as_trace >>= λ t. shown n t.end t.outputs)
  shows i o layers d n x (a_value v) e h f = absurd h
  shows i o layers d n x (done v states) e h f = absurd h
  shows i o layers d n x (traced outputs waits) e h f = record { list = outputs; gives = rw e refl; long = h.1; each_is = h.0 }
  shows i o layers d n x (traced [] (finished v states rest)) e h f = let k = h.1 in absurd (omega (arith, f))
  shows i o layers d n x (traced (w ∷ outputs) (finished v states rest)) e h f =
      let k = h.1 in
      let q = repeated (Fits types o) n w outputs h.0.0 h.0.1 (omega (arith, k)) in
      record { list = q.list; gives = rw e q.gives; long = q.long; each_is = q.each_is }

  in_pair : (p a b : ℕ) → ((tag : ℕ) (ds : List ℕ) → types.fields p tag ≡ Some ds → ds ≡ a ∷ b ∷ []) → (v : Val) → Fits types p v
      → ((w : Val) × (first_part v ≡ Some w) × Fits types a w) × ((w : Val) × (second_part v ≡ Some w) × Fits types b w)
  in_pair p a b h (val tag vs) f = by_fields vs (subst (λ ds. FieldsFit types ds vs) (h tag f.0 f.1) f.2)
    where
      by_fields : (vs : Vals) → FieldsFit types (a ∷ b ∷ []) vs → ((w : Val) × (first_part (val tag vs) ≡ Some w) × Fits types a w) × ((w : Val) × (second_part (val tag vs) ≡ Some w) × Fits types b w)
      by_fields none k = absurd k
      by_fields (more v none) k = absurd (k.1)
      by_fields (more v (more w none)) k = ((v, refl, k.0), (w, refl, k.1.0))
      by_fields (more v (more w (more u vs))) k = absurd (k.1.1)

  pairs : (p a b : ℕ) → types.fields p 0 ≡ Some (a ∷ b ∷ []) → (vs ws : List Val) (n : ℕ) → length vs ≡ n → length ws ≡ n → AllByRecursion (Fits types a) vs → AllByRecursion (Fits types b) ws → Lists (Fits types p) n (paired vs ws)
  pairs p a b e [] [] n l m h k = record { list = []; gives = refl; long = l; each_is = tt }
  pairs p a b e [] (w ∷ ws) n l m h k = absurd (omega (arith, l, m))
  pairs p a b e (v ∷ vs) [] n l m h k = absurd (omega (arith, l, m))
  pairs p a b e (v ∷ vs) (w ∷ ws) zero l m h k = absurd (omega (arith, l))
  pairs p a b e (v ∷ vs) (w ∷ ws) (suc n) l m h k =
      let q = pairs p a b e vs ws n (omega (arith, l)) (omega (arith, m)) h.1 k.1 in
      record { list = val 0 (more v (more w none)) ∷ q.list; gives = rw q.gives refl; long = ap suc q.long; each_is = ((a ∷ b ∷ [], e, (h.0, (k.0, tt))), q.each_is) }

on : {A : Type 0} {P : Val → Type 0} {n : ℕ} (x : Option A) (f : A → Option (List Val)) (a : A) → x ≡ Some a → Lists P n (f a) → Lists P n (x >>= f)
on x f a e q = record { list = q.list; gives = rw e q.gives; long = q.long; each_is = q.each_is }

module _ (types : DataTypes) (flat_functions : List FlatFunction) (signs : ℕ → Option Sign) (functions : (k : ℕ) (s : Sign) → signs k ≡ Some s → FunctionTyped types flat_functions signs k s) (ends : CallsEnd flat_functions) (b : ℕ) where
  abbrev calls : Mode → ℕ → List Val → Option Answer
  calls = call_within flat_functions b

  -- a function of one value or of two, by its number
  one_value : (f d e : ℕ) → signs f ≡ Some (record { params = d ∷ []; kind = of_data e }) → ends.most < b → (v : Val) → Fits types d v → (w : Val) × ((read_by calls).one f v ≡ Some w) × Fits types e w
  one_value f d e is l v h = value_goes types flat_functions signs functions ends b {g = d ∷ []} (is_call {ts = more_terms (local_term 0) no_terms} (d ∷ []) is (more_typed (is_local refl) no_typed)) (v ∷ []) (h, tt) l

  two_values : (g c d e : ℕ) → signs g ≡ Some (record { params = c ∷ d ∷ []; kind = of_data e }) → ends.most < b → (v w : Val) → Fits types c v → Fits types d w
      → (u : Val) × ((read_by calls).two g v w ≡ Some u) × Fits types e u
  two_values g c d e is l v w h k =
      value_goes types flat_functions signs functions ends b {g = c ∷ d ∷ []} (is_call {ts = more_terms (local_term 0) (more_terms (local_term 1) no_terms)} (c ∷ d ∷ []) is (more_typed (is_local refl) (more_typed (is_local refl) no_typed)))
      (v ∷ w ∷ []) (h, (k, tt)) l

  -- the inputs of a device that is fed back
  fed_lists : (i i' o' g : ℕ) → signs g ≡ Some (record { params = o' ∷ i ∷ []; kind = of_data i' }) → ends.most < b → (n : ℕ) (F : List Val → Option (List Val))
      → ((is : List Val) → AllByRecursion (Fits types i') is → length is ≤ n → Lists (Fits types o') (suc (length is)) (F is))
      → (inner outer : List Val) → AllByRecursion (Fits types i') inner → AllByRecursion (Fits types i) outer → length inner + length outer ≤ n
      → Lists (Fits types i') (length inner + length outer) (fed F ((read_by calls).two g) inner outer)
  fed_lists i i' o' g ty l n F k inner [] h w e = record { list = inner; gives = refl; long = omega arith; each_is = h }
  fed_lists i i' o' g ty l n F k inner (j ∷ outer) h w e =
      let p = k inner h (omega arith) in
      let q = the_last (Fits types o') p.list (length inner) p.long p.each_is in
      let r = two_values g o' i i' ty l q.0 j q.2 w.0 in
      let c = length-append inner (r.0 ∷ []) in
      let s = fed_lists i i' o' g ty l n F k (inner ++ r.0 ∷ []) outer (every_joined (Fits types i') inner (r.0 ∷ []) h (r.2, tt)) w.1 (omega (arith, c)) in
      record { list = s.list; gives = rw (p.gives, q.1, r.1) s.gives; long = omega (arith, s.long, c); each_is = s.each_is }

  pub system_lists : {s : System ℕ ℕ} {i o : ℕ} → SystemTyped types flat_functions signs s i o → EachLeaf (λ k. Signals flat_functions (call_term k no_terms)) s → (inputs : List Val) → AllByRecursion (Fits types i) inputs → room ends.most (length inputs) + ends.most < b
      → Lists (Fits types o) (suc (length inputs)) (system_outputs (read_by calls) s inputs)
  system_lists (leaf_typed {k = k} {i = i} {o = o} d is) s inputs h l =
      let g = term_goes types flat_functions signs functions ends b {g = []} (is_call {ts = no_terms} [] is no_typed) [] tt (tracing [] inputs) (tt, h) l in
      shows types i o [] d (length inputs) (calls (tracing [] inputs) k []) g.answer g.gives g.fits (g.fewer s)
  system_lists (pair_typed {a = a} {b = c} {i = i} {o = o} i' i'' o' o'' split e ty uy) s inputs h l =
      let p = each_lists (Fits types i) (Fits types i') first_part (λ v f. (in_pair types i i' i'' split v f).0) inputs h in
      let q = each_lists (Fits types i) (Fits types i'') second_part (λ v f. (in_pair types i i' i'' split v f).1) inputs h in
      let r = system_lists ty s.0 p.list p.each_is (rw p.long l) in
      let z = system_lists uy s.1 q.list q.each_is (rw q.long l) in
      on (each first_part inputs) _ p.list p.gives (on (each second_part inputs) _ q.list q.gives
      (on (system_outputs (read_by calls) a p.list) _ r.list r.gives (on (system_outputs (read_by calls) c q.list) _ z.list z.gives
      (pairs types o o' o'' e r.list z.list (suc (length inputs)) (r.long ∙ ap suc p.long) (z.long ∙ ap suc q.long) r.each_is z.each_is))))
  system_lists (fed_back_typed {f = f} {g = g} {a = a} {i = i} {o = o} i' o' fy gy ty) s inputs h l =
      let p = fed_lists i i' o' g gy (omega arith) (length inputs) (system_outputs (read_by calls) a)
      (λ is w e. let k = room_le ends.most (length is) (length inputs) e in system_lists ty s is w (omega arith)) [] inputs tt h (omega arith) in
      let long : length p.list ≡ length inputs = omega (arith, p.long) in
      let q = system_lists ty s p.list p.each_is (rw long l) in
      let r = each_lists (Fits types o') (Fits types o) ((read_by calls).one f) (λ v w. one_value f o' o fy (omega arith) v w) q.list q.each_is in
      on (fed (system_outputs (read_by calls) a) ((read_by calls).two g) [] inputs) _ p.list p.gives (on (system_outputs (read_by calls) a p.list) _ q.list q.gives
      (record { list = r.list; gives = r.gives; long = r.long ∙ (q.long ∙ ap suc long); each_is = r.each_is }))

-- there are outputs within a budget
pub outputs_of : (types : DataTypes) (flat_functions : List FlatFunction) (signs : ℕ → Option Sign) (system : System ℕ ℕ) (i o : ℕ) → IsGuarded types flat_functions signs system i o → (inputs : List Val)
    → AllByRecursion (Fits types i) inputs
    → (outputs : List Val) × (b : ℕ) × (outputs_within flat_functions system b inputs ≡ Some outputs) × (length outputs ≡ suc (length inputs)) × AllByRecursion (Fits types o) outputs
outputs_of types flat_functions signs system i o g inputs h =
    let b = suc (room g.ends.most (length inputs) + g.ends.most) in
    let q = system_lists types flat_functions signs g.functions g.ends b g.system_typed g.leaves inputs h (omega arith) in
    (q.list, b, q.gives, q.long, q.each_is)

-- from then on a greater budget gives them too
kept : {A : Type 0} (x y : Option A) (a : A) → Grows x y → x ≡ Some a → y ≡ Some a
kept None y a h e = absurd (cc)
kept (Some c) y a h e = h ∙ e

lasts : (flat_functions : List FlatFunction) (system : System ℕ ℕ) (inputs outputs : List Val) (b : ℕ) → outputs_within flat_functions system b inputs ≡ Some outputs → FlatDenotes flat_functions system inputs outputs
lasts flat_functions system inputs outputs b e = record {
  from = b;
  holds = λ n le. let same : n ≡ (n - b) + b = omega arith in
      subst (λ m. outputs_within flat_functions system m inputs ≡ Some outputs) (sym same)
      (kept (outputs_within flat_functions system b inputs) (outputs_within flat_functions system ((n - b) + b) inputs) outputs (outputs_grow flat_functions system (n - b) b inputs) e);
}

pub denoted : (types : DataTypes) (flat_functions : List FlatFunction) (signs : ℕ → Option Sign) (system : System ℕ ℕ) (i o : ℕ) → IsGuarded types flat_functions signs system i o → (inputs : List Val)
    → AllByRecursion (Fits types i) inputs
    → (outputs : List Val) × FlatDenotes flat_functions system inputs outputs × (length outputs ≡ suc (length inputs)) × AllByRecursion (Fits types o) outputs
denoted types flat_functions signs system i o g inputs h =
    let q = outputs_of types flat_functions signs system i o g inputs h in (q.0, lasts flat_functions system inputs q.0 q.1 q.2, q.3, q.4)
