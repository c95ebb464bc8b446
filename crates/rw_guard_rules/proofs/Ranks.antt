-- Ranks and cycles; must-signal as a derivation and as a set.
use Rattle.std.specs.List.{AllByRecursion}
use Rattle.std.proofs.Common.{◌≡◌, ℕ, suc, ◌+◌, ◌≤◌, ◌<◌, List, [], ◌∷◌, Some, Bool, true, false, ◌&&◌, ◌||◌, ◌⊎◌, inl, inr, refl, arith, subst}
use Rattle.rw_core_flat.specs.Terms.{FlatTerm, local_term, built_term, case_term, let_term, call_term, mark_term, return_term, get_term, put_term, lift_term, bind_term, signal_term, extrude_term}
use Rattle.rw_core_flat.specs.Terms.{FlatRows, no_rows, more_rows, FlatArms, body_arm, no_arms, more_arms}
use Rattle.rw_core_flat.specs.Programs.{FlatFunction, function_at}
use Rattle.rw_guard_rules.specs.Signals.{Signals, signals_here, signals_left, signals_right, signals_case, signals_let, signals_mark, signals_call, signals_extrude, RowsSignal, no_row_left, each_row, ArmsSignal, the_body, no_arm_left, each_arm}
use Rattle.rw_guard_rules.specs.Signals.{Step, right_of, inward, aside, Held, calls_in, Guarded, CallsEnd}
use Rattle.rw_guard_rules.specs.Rules.{AnyByRecursion, Calls, Leads, one_step, more_steps, Unguarded, signals_by, rows_signal_by, arms_signal_by, guarded_by, IsClosed, IsMustSignal}

every_map : {A : Type 0} (P Q : A → Type 0) → ((a : A) → P a → Q a) → (xs : List A) → AllByRecursion P xs → AllByRecursion Q xs
every_map P Q f [] h = tt
every_map P Q f (x ∷ xs) h = (f x h.0, every_map P Q f xs h.1)

-- == From ranks to no cycle ==

one_of : {A B : Type 0} (P Q : A → Type 0) (xs : List A) → ((a : A) → P a → Q a → B) → AllByRecursion P xs → AnyByRecursion Q xs → B
one_of P Q [] f h k = absurd k
one_of P Q (x ∷ xs) f h (inl k) = f x h.0 k
one_of P Q (x ∷ xs) f h (inr k) = one_of P Q xs f h.1 k

falls_once : (functions : List FlatFunction) (ends : CallsEnd functions) (i j : ℕ) → Calls functions (Unguarded functions) i j → ends.rank j < ends.rank i
falls_once functions ends i j c = one_of _ _ (calls_in [] (c.0).body) (λ d free is. subst (λ z. ends.rank z < ends.rank i) is.0 (free is.1)) (ends.falls i c.0 c.1) c.2

falls_far : (R : ℕ → ℕ → Type 0) (rank : ℕ → ℕ) → ((i j : ℕ) → R i j → rank j < rank i) → {i j : ℕ} → Leads R i j → rank j < rank i
falls_far R rank h (one_step {i = i} {j = j} r) = h i j r
falls_far R rank h (more_steps {i = i} {k = k} j r l) = let a = h i j r in let b = falls_far R rank h l in omega arith

pub no_cycle : (functions : List FlatFunction) → CallsEnd functions → (i : ℕ) → Leads (Calls functions (Unguarded functions)) i i → ⊥
no_cycle functions ends i l = let h = falls_far (Calls functions (Unguarded functions)) ends.rank (falls_once functions ends) l in omega arith

-- == From the ranks of plain functions and those of devices ==

pub record PlainRank (functions : List FlatFunction) (devices : ℕ → Bool) : Type 0 where
  pub rank : ℕ → ℕ
  pub most : ℕ
  pub bounded : (i : ℕ) → rank i ≤ most
  pub falls : (i : ℕ) (f : FlatFunction) → function_at i functions ≡ Some f → devices i ≡ false → AllByRecursion (λ c. (devices c.callee ≡ false) × (rank c.callee < rank i)) (calls_in [] f.body)

pub record DeviceRank (functions : List FlatFunction) (devices : ℕ → Bool) : Type 0 where
  pub rank : ℕ → ℕ
  pub most : ℕ
  pub bounded : (i : ℕ) → rank i ≤ most
  pub falls : (i : ℕ) (f : FlatFunction) → function_at i functions ≡ Some f → devices i ≡ true → AllByRecursion (λ c. (Guarded functions c.path → ⊥) → devices c.callee ≡ true → rank c.callee < rank i) (calls_in [] f.body)

module _ (functions : List FlatFunction) (devices : ℕ → Bool) (p : PlainRank functions devices) (q : DeviceRank functions devices) where
  abbrev ranked : Bool → ℕ → ℕ
  ranked true i = suc p.most + q.rank i
  ranked false i = p.rank i

  ranked_most : (b : Bool) (i : ℕ) → ranked b i ≤ suc p.most + q.most
  ranked_most true i = let h = q.bounded i in omega arith
  ranked_most false i = let h = p.bounded i in omega arith

  from_plain : (i : ℕ) (c : Held) → (devices c.callee ≡ false) × (p.rank c.callee < p.rank i) → ranked (devices c.callee) c.callee < ranked false i
  from_plain i c h = rw (h.0) (h.1)

  from_device : (i j : ℕ) (b : Bool) → (b ≡ true → q.rank j < q.rank i) → ranked b j < ranked true i
  from_device i j true h = let k = h refl in omega arith
  from_device i j false h = let k = p.bounded j in omega arith

  by_kind : (i : ℕ) (f : FlatFunction) → function_at i functions ≡ Some f → (b : Bool) → devices i ≡ b → AllByRecursion (λ c. (Guarded functions c.path → ⊥) → ranked (devices c.callee) c.callee < ranked b i) (calls_in [] f.body)
  by_kind i f e true d = every_map _ _ (λ c h free. from_device i c.callee (devices c.callee) (h free)) (calls_in [] f.body) (q.falls i f e d)
  by_kind i f e false d = every_map _ _ (λ c h free. from_plain i c h) (calls_in [] f.body) (p.falls i f e d)

  pub ranks_joined : CallsEnd functions
  ranks_joined = record { rank = λ i. ranked (devices i) i; most = suc p.most + q.most; bounded = λ i. ranked_most (devices i) i; falls = λ i f e. by_kind i f e (devices i) refl }

-- == Must-signal ==

true_both : (a b : Bool) → a ≡ true → b ≡ true → (a && b) ≡ true
true_both a b e h = rw (e, h) refl

first_true : (a b : Bool) → (a && b) ≡ true → a ≡ true
first_true true b e = refl
first_true false b e = e

second_true : (a b : Bool) → (a && b) ≡ true → b ≡ true
second_true true b e = e
second_true false b e = absurd (cc)

true_first : (a b : Bool) → a ≡ true → (a || b) ≡ true
true_first a b e = rw e refl

true_second : (a b : Bool) → b ≡ true → (a || b) ≡ true
true_second true b e = refl
true_second false b e = e

either_true : (a b : Bool) → (a || b) ≡ true → (a ≡ true) ⊎ (b ≡ true)
either_true true b e = inl refl
either_true false b e = inr e

module _ (functions : List FlatFunction) (set : ℕ → Bool) where
  -- what is must-signal lies in each closed set
  module _ (closed : IsClosed functions set) where
    mutual
      pub in_closed : {t : FlatTerm} → Signals functions t → signals_by set t ≡ true
      in_closed signals_here = refl
      in_closed (signals_left {t = t} {u = u} s) = true_first (signals_by set t) (signals_by set u) (in_closed s)
      in_closed (signals_right {t = t} {u = u} s) = true_second (signals_by set t) (signals_by set u) (in_closed s)
      in_closed (signals_case s) = rows_in_closed s
      in_closed (signals_let s) = in_closed s
      in_closed (signals_mark s) = in_closed s
      in_closed (signals_call {i = i} f e s) = closed i f e (in_closed s)
      in_closed (signals_extrude s) = in_closed s

      rows_in_closed : {rows : FlatRows} → RowsSignal functions rows → rows_signal_by set rows ≡ true
      rows_in_closed no_row_left = refl
      rows_in_closed (each_row {arms = arms} {others = others} a r) = true_both (arms_signal_by set arms) (rows_signal_by set others) (arms_in_closed a) (rows_in_closed r)

      arms_in_closed : {arms : FlatArms} → ArmsSignal functions arms → arms_signal_by set arms ≡ true
      arms_in_closed (the_body s) = in_closed s
      arms_in_closed no_arm_left = refl
      arms_in_closed (each_arm {t = t} {others = others} s a) = true_both (signals_by set t) (arms_signal_by set others) (in_closed s) (arms_in_closed a)

  -- what a set of derived functions finds is must-signal
  module _ (derived : (i : ℕ) → set i ≡ true → (f : FlatFunction) × (function_at i functions ≡ Some f) × Signals functions f.body) where
    of_bind : (t u : FlatTerm) → (signals_by set t ≡ true → Signals functions t) → (signals_by set u ≡ true → Signals functions u) → (signals_by set t ≡ true) ⊎ (signals_by set u ≡ true) → Signals functions (bind_term t u)
    of_bind t u f g (inl e) = signals_left (f e)
    of_bind t u f g (inr e) = signals_right (g e)

    mutual
      pub of_derived : (t : FlatTerm) → signals_by set t ≡ true → Signals functions t
      of_derived (local_term k) e = absurd (cc)
      of_derived (built_term type place ts) e = absurd (cc)
      of_derived (case_term ts rows) e = signals_case (rows_of_derived rows e)
      of_derived (let_term lets t) e = signals_let (of_derived t e)
      of_derived (call_term i ts) e = let d = derived i e in signals_call d.0 d.1 d.2
      of_derived (mark_term t) e = signals_mark (of_derived t e)
      of_derived (return_term t) e = absurd (cc)
      of_derived get_term e = absurd (cc)
      of_derived (put_term t) e = absurd (cc)
      of_derived (lift_term t) e = absurd (cc)
      of_derived (bind_term t u) e = of_bind t u (of_derived t) (of_derived u) (either_true (signals_by set t) (signals_by set u) e)
      of_derived (signal_term t) e = signals_here
      of_derived (extrude_term d s) e = signals_extrude (of_derived d e)

      rows_of_derived : (rows : FlatRows) → rows_signal_by set rows ≡ true → RowsSignal functions rows
      rows_of_derived no_rows e = no_row_left
      rows_of_derived (more_rows ps lets arms others) e = each_row (arms_of_derived arms (first_true (arms_signal_by set arms) (rows_signal_by set others) e)) (rows_of_derived others (second_true (arms_signal_by set arms) (rows_signal_by set others) e))

      arms_of_derived : (arms : FlatArms) → arms_signal_by set arms ≡ true → ArmsSignal functions arms
      arms_of_derived (body_arm t) e = the_body (of_derived t e)
      arms_of_derived no_arms e = no_arm_left
      arms_of_derived (more_arms g t others) e = each_arm (of_derived t (first_true (signals_by set t) (arms_signal_by set others) e)) (arms_of_derived others (second_true (signals_by set t) (arms_signal_by set others) e))

  -- a worklist's set decides it
  pub must_signal_decided : IsMustSignal functions set → (t : FlatTerm) → (Signals functions t → signals_by set t ≡ true) × (signals_by set t ≡ true → Signals functions t)
  must_signal_decided m t = (in_closed m.closed, of_derived m.derived t)

  pub guarded_decided : IsMustSignal functions set → (path : List Step) → (Guarded functions path → guarded_by set path ≡ true) × (guarded_by set path ≡ true → Guarded functions path)
  guarded_decided m [] = (λ g. absurd g, λ e. absurd (cc))
  guarded_decided m (inward ∷ path) = guarded_decided m path
  guarded_decided m (aside ∷ path) = guarded_decided m path
  guarded_decided m (right_of t ∷ path) =
      let d = must_signal_decided m t in let g = guarded_decided m path in (
        λ s. elim s [ inl s ↦ true_first (signals_by set t) (guarded_by set path) (d.0 s) | inr s ↦ true_second (signals_by set t) (guarded_by set path) (g.0 s) ],
        λ e. elim (either_true (signals_by set t) (guarded_by set path) e) [ inl e ↦ inl (d.1 e) | inr e ↦ inr (g.1 e) ],
      )
