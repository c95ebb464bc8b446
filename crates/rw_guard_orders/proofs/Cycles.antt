-- A stuck set has a cycle in it: from one of the set a walk through it comes to a function twice.
use Rattle.std.proofs.Common.{◌≡◌, ℕ, zero, suc, ◌+◌, ◌≤◌, ◌<◌, List, [], ◌∷◌, length, Option, Some, None, Bool, true, false, nat_eq, if◌then◌else◌, ◌⊎◌, inl, inr, refl, arith, sym, ◌∙◌, subst}
use Rattle.std.specs.List.{AllByRecursion, IsDistinct, list_any}
use Rattle.std.proofs.lemmas.Bool.{cases_lt}
use Rattle.std.proofs.lemmas.Map.Keys.{IsDistinct-cons}
use Rattle.std.proofs.lemmas.Map.Steps.{length-le_from_distinct_below}
use Rattle.rw_core_flat.specs.Programs.{FlatFunction, function_at}
use Rattle.rw_guard_rules.specs.Signals.{Step, Held, calls_in, Guarded, CallsEnd}
use Rattle.rw_guard_rules.specs.Rules.{AnyByRecursion, Calls, Leads, one_step, more_steps, OnAnyPath, Unguarded, KeepsRules, guarded_by, IsMustSignal, open_callees, callees_of, graph_of, Stuck}
use Rattle.rw_guard_rules.proofs.Ranks.{guarded_decided}
use Rattle.rw_guard_rules.proofs.Worklist.{ends_of}
use Rattle.rw_guard_orders.proofs.Lists.{every_map, any_map, true_or_false, some_passes, pick, apart}

-- == Ways ==

leads_on : (R : ℕ → ℕ → Type 0) {i j k : ℕ} → Leads R i j → Leads R j k → Leads R i k
leads_on R (one_step {i = i} {j = j} r) l = more_steps j r l
leads_on R (more_steps m r k) l = more_steps m r (leads_on R k l)

leads_map : (R S : ℕ → ℕ → Type 0) → ((i j : ℕ) → R i j → S i j) → {i j : ℕ} → Leads R i j → Leads S i j
leads_map R S f (one_step {i = i} {j = j} r) = one_step (f i j r)
leads_map R S f (more_steps {i = i} {k = k} j r l) = more_steps j (f i j r) (leads_map R S f l)

-- a way goes through devices alone, or comes to a function that is none
module _ (R : ℕ → ℕ → Type 0) (devices : ℕ → Bool) where
  abbrev ThroughPlain : ℕ → ℕ → Type 0
  ThroughPlain i k = (j : ℕ) × (devices j ≡ false) × Leads R i j × ((j ≡ k) ⊎ Leads R j k)

  abbrev Devices : ℕ → ℕ → Type 0
  Devices i j = (devices j ≡ true) × R i j

  through : {i k : ℕ} → Leads R i k → Leads Devices i k ⊎ ThroughPlain i k
  through (one_step {i = i} {j = j} r) = elim (true_or_false (devices j)) [
    | inl e ↦ inl (one_step (e, r))
    | inr e ↦ inr (j, e, one_step r, inl refl)
  ]
  through (more_steps {i = i} {k = k} j r l) = elim (true_or_false (devices j)) [
    | inr e ↦ inr (j, e, one_step r, inr l)
    | inl e ↦ elim (through l) [
      | inl d ↦ inl (more_steps j (e, r) d)
      | inr p ↦ inr (p.0, p.1, more_steps j r p.2, p.3)
    ]
  ]

  -- a plain function on a cycle leads to itself
  round : (i : ℕ) → ThroughPlain i i → (j : ℕ) × (devices j ≡ false) × Leads R j j
  round i p = elim p.3 [
    | inl e ↦ (p.0, p.1, subst (λ z. Leads R z p.0) (sym e) p.2)
    | inr l ↦ (p.0, p.1, leads_on R l p.2)
  ]

-- == A walk through a set of numbers below a bound ==

module _ (R : ℕ → ℕ → Type 0) (n : ℕ) (set : ℕ → Bool) (next : (i : ℕ) → set i ≡ true → (j : ℕ) × R i j × (set j ≡ true)) (within : (i : ℕ) → set i ≡ true → i < n) where
  -- those that the walk came from lead to where it is
  abbrev Before : ℕ → ℕ → Type 0
  Before x q = (set q ≡ true) × Leads R q x

  walk : (fuel : ℕ) (xs : List ℕ) (x : ℕ) → set x ≡ true → IsDistinct nat_eq xs → AllByRecursion (Before x) xs → n < fuel + length xs → (k : ℕ) × Leads R k k
  walk zero xs x e d b l =
      let most = length-le_from_distinct_below xs n d (λ q h. within q ((pick (Before x) q xs b h).0)) in absurd (omega arith)
  walk (suc fuel) xs x e d b l = elim (true_or_false (list_any (nat_eq x) xs)) [
    | inl h ↦ (x, (pick (Before x) x xs b h).1)
    | inr h ↦ let k = next x e in
        walk fuel (x ∷ xs) k.0 k.2 (IsDistinct-cons nat_eq x xs (apart x xs h) d)
        ((e, one_step k.1), every_map (Before x) (Before k.0) (λ q c. (c.0, leads_on R c.1 (one_step k.1))) xs b) (omega arith)
  ]

  comes_round : (x : ℕ) → set x ≡ true → (k : ℕ) × Leads R k k
  unfolding IsDistinct
  comes_round x e = walk (suc n) [] x e tt tt (omega arith)

-- == Functions ==

module _ (functions : List FlatFunction) (set : ℕ → Bool) (m : IsMustSignal functions set) where
  pub free_of : (path : List Step) → guarded_by set path ≡ false → Guarded functions path → ⊥
  free_of path e g = let t = (guarded_decided functions set m path).0 g in let f : true ≡ false = sym t ∙ e in absurd (cc)

  -- who is called without a guard is called so
  open_call : (j : ℕ) (cs : List Held) → AnyByRecursion (λ x. x ≡ j) (open_callees set cs) → AnyByRecursion (λ c. (c.callee ≡ j) × Unguarded functions c.path) cs
  open_call j [] w = absurd w
  open_call j (c ∷ cs) w = by_guard (guarded_by set c.path) refl w (open_call j cs)
    where
      by_guard : (b : Bool) → guarded_by set c.path ≡ b → AnyByRecursion (λ x. x ≡ j) (if b then open_callees set cs else c.callee ∷ open_callees set cs)
          → (AnyByRecursion (λ x. x ≡ j) (open_callees set cs) → AnyByRecursion (λ c. (c.callee ≡ j) × Unguarded functions c.path) cs)
          → AnyByRecursion (λ c. (c.callee ≡ j) × Unguarded functions c.path) (c ∷ cs)
      by_guard true e w k = inr (k w)
      by_guard false e (inl w) k = inl (w, free_of c.path e)
      by_guard false e (inr w) k = inr (k w)

  calls_of : (i j : ℕ) (x : Option FlatFunction) → function_at i functions ≡ x → AnyByRecursion (λ y. y ≡ j) (callees_of set x) → Calls functions (Unguarded functions) i j
  calls_of i j None e w = absurd w
  calls_of i j (Some f) e w = (f, e, open_call j (calls_in [] f.body) w)

  none_at : (i : ℕ) (fs : List FlatFunction) → length fs ≤ i → function_at i fs ≡ None
  none_at i [] h = refl
  none_at zero (f ∷ fs) h = absurd (omega arith)
  none_at (suc i) (f ∷ fs) h = none_at i fs (omega arith)

  module _ (stuck_set : ℕ → Bool) (stuck : Stuck (graph_of functions set) stuck_set) where
    next_of : (i : ℕ) → stuck_set i ≡ true → (j : ℕ) × Calls functions (Unguarded functions) i j × (stuck_set j ≡ true)
    next_of i e = let k = some_passes stuck_set (graph_of functions set i) (stuck i e) in (k.0, calls_of i k.0 (function_at i functions) refl k.2, k.1)

    is_within : (i : ℕ) → stuck_set i ≡ true → i < length functions
    is_within i e = elim (cases_lt i (length functions)) [
      | inl l ↦ l
      | inr l ↦ let k = stuck i e in let g : list_any stuck_set (callees_of set None) ≡ true = subst (λ x. list_any stuck_set (callees_of set x) ≡ true) (none_at i functions l) k in absurd (cc)
    ]

    stuck_cycle : (i : ℕ) → stuck_set i ≡ true → (k : ℕ) × Leads (Calls functions (Unguarded functions)) k k
    stuck_cycle i e = comes_round (Calls functions (Unguarded functions)) (length functions) stuck_set next_of is_within i e

  module _ (devices : ℕ → Bool) (keeps : KeepsRules functions devices) where
    any_path : (i j : ℕ) → Calls functions (Unguarded functions) i j → Calls functions OnAnyPath i j
    any_path i j c = (c.0, c.1, any_map (λ d. (d.callee ≡ j) × Unguarded functions d.path) (λ d. (d.callee ≡ j) × OnAnyPath d.path) (λ d h. (h.0, tt)) (calls_in [] (c.0).body) c.2)

    no_cycle : (k : ℕ) → Leads (Calls functions (Unguarded functions)) k k → ⊥
    no_cycle k l = elim (through (Calls functions (Unguarded functions)) devices l) [
      | inl d ↦ keeps.guards k d
      | inr p ↦ let r = round (Calls functions (Unguarded functions)) devices k p in
          keeps.plain_end r.0 r.1 (leads_map (Calls functions (Unguarded functions)) (Calls functions OnAnyPath) any_path r.2)
    ]

    none_stuck : (s : ℕ → Bool) → Stuck (graph_of functions set) s → (i : ℕ) → s i ≡ false
    none_stuck s stuck i = elim (true_or_false (s i)) [
      | inl e ↦ let c = stuck_cycle s stuck i e in absurd (no_cycle c.0 c.1)
      | inr e ↦ e
    ]

    pub ranks_of : CallsEnd functions
    ranks_of = ends_of functions set m none_stuck
