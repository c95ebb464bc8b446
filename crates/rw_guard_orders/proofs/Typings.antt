-- A typed body calls functions with signatures; and where it isn't a device, none that is one.
use Rattle.std.proofs.Common.{◌≡◌, ℕ, List, [], ◌∷◌, ◌++◌, Option, Some, Bool, false, refl, sym, ◌∙◌, subst}
use Rattle.std.specs.List.{AllByRecursion}
use Rattle.rw_core_flat.specs.Terms.{FlatTerm, FlatTerms, FlatLets, FlatRows, FlatArms}
use Rattle.rw_core_flat.specs.Programs.{FlatFunction, function_at}
use Rattle.rw_core.specs.Options.{◌>>=◌}
use Rattle.rw_core_flat.specs.WellTyped.{Monad, state, device, Kind, doing, Sign, sign_of, signs_of, DataTypes, FunctionTyped, Typed, is_local, is_con, is_case, is_let, is_call, is_mark, is_return, is_get, is_put, lifts_state, lifts_device, is_bind, is_signal, is_extrude}
use Rattle.rw_core_flat.specs.WellTyped.{AllTyped, no_typed, more_typed, LetsTyped, no_lets_typed, more_lets_typed, RowsTyped, no_rows_typed, more_rows_typed, ArmsTyped, body_typed, no_arms_typed, more_arms_typed}
use Rattle.rw_guard_rules.specs.Signals.{Step, right_of, inward, aside, Held, calls_in, calls_in_all, calls_in_lets, calls_in_rows, calls_in_arms}
use Rattle.rw_guard_rules.specs.Rules.{AnyByRecursion, Calls, OnAnyPath}
use Rattle.rw_guard_orders.specs.Orders.{CalleesAreThere, is_device, AreTyped}
use Rattle.rw_guard_orders.proofs.Lists.{one_of}

every_join : {A : Type 0} (P : A → Type 0) (xs ys : List A) → AllByRecursion P xs → AllByRecursion P ys → AllByRecursion P (xs ++ ys)
every_join P [] ys h k = k
every_join P (x ∷ xs) ys h k = (h.0, every_join P xs ys h.1 k)

module _ (types : DataTypes) (functions : List FlatFunction) (signs : ℕ → Option Sign) where
  -- a callee with a signature, which isn't a device unless `may`
  abbrev MayCall : Bool → Held → Type 0
  MayCall may c = (s : Sign) × (signs c.callee ≡ Some s) × (may ≡ false → is_device s.kind ≡ false)

  abbrev AllMay : Bool → List Held → Type 0
  AllMay may cs = AllByRecursion (MayCall may) cs

  join : (may : Bool) (cs ds : List Held) → AllMay may cs → AllMay may ds → AllMay may (cs ++ ds)
  join may cs ds h k = every_join (MayCall may) cs ds h k

  part_plain : (m : Monad) (layers : List ℕ) (b d : ℕ) → is_device (doing m layers d) ≡ false → is_device (doing m layers b) ≡ false
  part_plain state layers b d e = refl
  part_plain (device i o) layers b d e = e

  mutual
    of_term : {g : List ℕ} {t : FlatTerm} {k : Kind} → Typed types functions signs g t k → (may : Bool) → (may ≡ false → is_device k ≡ false) → (path : List Step) → AllMay may (calls_in path t)
    of_term (is_local e) may f path = tt
    of_term (is_con ds e a) may f path = of_terms a may (aside ∷ path)
    of_term (is_case {ts = ts} {rows = rows} ds a r c) may f path = join may (calls_in_all (aside ∷ path) ts) (calls_in_rows path rows) (of_terms a may (aside ∷ path)) (of_rows r may f path)
    of_term (is_let {lets = lets} {t = t} inner l b) may f path = join may (calls_in_lets (aside ∷ path) lets) (calls_in (inward ∷ path) t) (of_lets l may (aside ∷ path)) (of_term b may f (inward ∷ path))
    of_term (is_call {k = k} ds e a) may f path = ((record { params = ds; kind = k }, e, f), of_terms a may (aside ∷ path))
    of_term (is_mark b) may f path = of_term b may f (inward ∷ path)
    of_term (is_return b) may f path = of_term b may (λ e. refl) (aside ∷ path)
    of_term is_get may f path = tt
    of_term (is_put b e) may f path = of_term b may (λ e. refl) (aside ∷ path)
    of_term (lifts_state b) may f path = of_term b may (λ e. refl) (aside ∷ path)
    of_term (lifts_device b) may f path = of_term b may (λ e. refl) (aside ∷ path)
    of_term (is_bind {t = t} {u = u} {m = m} {layers = layers} {d = d} b p q) may f path = join may (calls_in (aside ∷ path) t) (calls_in (right_of t ∷ path) u) (of_term p may (λ e. part_plain m layers b d (f e)) (aside ∷ path)) (of_term q may f (right_of t ∷ path))
    of_term (is_signal b) may f path = of_term b may (λ e. refl) (aside ∷ path)
    of_term (is_extrude {t = t} {u = u} s p q) may f path = join may (calls_in (aside ∷ path) t) (calls_in (aside ∷ path) u) (of_term p may f (aside ∷ path)) (of_term q may (λ e. refl) (aside ∷ path))

    of_terms : {g : List ℕ} {ts : FlatTerms} {ds : List ℕ} → AllTyped types functions signs g ts ds → (may : Bool) (path : List Step) → AllMay may (calls_in_all path ts)
    of_terms no_typed may path = tt
    of_terms (more_typed {t = t} {ts = ts} a others) may path = join may (calls_in path t) (calls_in_all path ts) (of_term a may (λ e. refl) path) (of_terms others may path)

    of_lets : {g : List ℕ} {lets : FlatLets} {inner : List ℕ} → LetsTyped types functions signs g lets inner → (may : Bool) (path : List Step) → AllMay may (calls_in_lets path lets)
    of_lets no_lets_typed may path = tt
    of_lets (more_lets_typed {t = t} {others = others} d ds a e c l) may path = join may (calls_in path t) (calls_in_lets path others) (of_term a may (λ e. refl) path) (of_lets l may path)

    of_rows : {g ds : List ℕ} {rows : FlatRows} {k : Kind} → RowsTyped types functions signs g ds rows k → (may : Bool) → (may ≡ false → is_device k ≡ false) → (path : List Step) → AllMay may (calls_in_rows path rows)
    of_rows no_rows_typed may f path = tt
    of_rows (more_rows_typed {lets = lets} {arms = arms} {others = others} es inner e l a r) may f path =
        join may (calls_in_lets (aside ∷ path) lets) (calls_in_arms path arms ++ calls_in_rows path others) (of_lets l may (aside ∷ path))
        (join may (calls_in_arms path arms) (calls_in_rows path others) (of_arms a may f path) (of_rows r may f path))

    of_arms : {g : List ℕ} {arms : FlatArms} {k : Kind} → ArmsTyped types functions signs g arms k → (may : Bool) → (may ≡ false → is_device k ≡ false) → (path : List Step) → AllMay may (calls_in_arms path arms)
    of_arms (body_typed b) may f path = of_term b may f (inward ∷ path)
    of_arms no_arms_typed may f path = tt
    of_arms (more_arms_typed {c = c} {t = t} {others = others} p q r) may f path =
        join may (calls_in (aside ∷ path) c) (calls_in (inward ∷ path) t ++ calls_in_arms path others) (of_term p may (λ e. refl) (aside ∷ path))
        (join may (calls_in (inward ∷ path) t) (calls_in_arms path others) (of_term q may f (inward ∷ path)) (of_arms r may f path))

  module _ (typed : AreTyped types functions signs) where
    callee_of : (i j : ℕ) (s : Sign) → FunctionTyped types functions signs i s → (f : FlatFunction) → function_at i functions ≡ Some f → AnyByRecursion (λ c. (c.callee ≡ j) × OnAnyPath c.path) (calls_in [] f.body)
        → (other : Sign) × (signs j ≡ Some other) × (is_device s.kind ≡ false → is_device other.kind ≡ false)
    callee_of i j s t f e w =
        let same : Some f ≡ Some t.function = sym e ∙ t.found in
        let is : f ≡ t.function = cc in
        let held = one_of (MayCall (is_device s.kind)) (λ c. (c.callee ≡ j) × OnAnyPath c.path) (calls_in [] (t.function).body) (of_term t.typed (is_device s.kind) (λ k. k) []) (subst (λ g. AnyByRecursion (λ c. (c.callee ≡ j) × OnAnyPath c.path) (calls_in [] g.body)) is w) in
        ((held.1).0, subst (λ z. signs z ≡ Some (held.1).0) (held.2).0 (held.1).1, (held.1).2)

    pub plain_call : (i j : ℕ) (s : Sign) → signs i ≡ Some s → Calls functions OnAnyPath i j → (other : Sign) × (signs j ≡ Some other) × (is_device s.kind ≡ false → is_device other.kind ≡ false)
    plain_call i j s e c = callee_of i j s (typed i s e) c.0 c.1 c.2

sign_at : (i : ℕ) (x : Option FlatFunction) (f : FlatFunction) → x ≡ Some f → (x >>= (λ g. Some (sign_of g))) ≡ Some (sign_of f)
sign_at i x f e = rw e refl

pub callees_there : (types : DataTypes) (functions : List FlatFunction) → AreTyped types functions (signs_of functions) → CalleesAreThere functions
callees_there types functions typed i j c =
    let k = plain_call types functions (signs_of functions) typed i j (sign_of c.0) (sign_at i (function_at i functions) c.0 c.1) c in
    let t = typed j k.0 k.1 in (t.function, t.found)
