-- A worklist's answer and ranks: where no functions wait for one another for ever there are ranks, and where there are ranks none do.
use Rattle.std.proofs.Common.{◌≡◌, ℕ, zero, suc, ◌+◌, ◌≤◌, ◌<◌, List, [], ◌∷◌, length, Option, Some, None, Bool, true, false, ◌||◌, if◌then◌else◌, ◌⊎◌, inl, inr, refl, arith, sym, ◌∙◌, subst}
use Rattle.std.specs.List.{list_any, AllByRecursion}
use Rattle.std.proofs.lemmas.Bool.{cases_lt}
use Rattle.rw_core_flat.specs.Programs.{FlatFunction, function_at}
use Rattle.rw_guard_rules.specs.Signals.{Held, calls_in, Guarded, CallsEnd}
use Rattle.rw_guard_rules.specs.Rules.{AnyByRecursion, guarded_by, IsMustSignal, open_callees, callees_of, graph_of, Stuck}
use Rattle.rw_guard_rules.proofs.Ranks.{guarded_decided}

or_true : (a b : Bool) → b ≡ true → (a || b) ≡ true
or_true true b e = refl
or_true false b e = e

any_first : (p q : ℕ → Bool) (x : ℕ) (xs : List ℕ) → ((i : ℕ) → p i ≡ true → q i ≡ true) → (list_any p xs ≡ true → list_any q xs ≡ true) → (b : Bool) → p x ≡ b → (b || list_any p xs) ≡ true → (q x || list_any q xs) ≡ true
any_first p q x xs h k true i e = rw (h x i) refl
any_first p q x xs h k false i e = or_true (q x) (list_any q xs) (k e)

any_more : (p q : ℕ → Bool) → ((i : ℕ) → p i ≡ true → q i ≡ true) → (xs : List ℕ) → list_any p xs ≡ true → list_any q xs ≡ true
any_more p q h [] e = e
any_more p q h (x ∷ xs) e = any_first p q x xs h (any_more p q h xs) (p x) refl e

any_at : (p : ℕ → Bool) (j : ℕ) → p j ≡ true → (xs : List ℕ) → AnyByRecursion (λ x. x ≡ j) xs → list_any p xs ≡ true
any_at p j e [] k = absurd k
any_at p j e (x ∷ xs) (inl k) = rw (k, e) refl
any_at p j e (x ∷ xs) (inr k) = or_true (p x) (list_any p xs) (any_at p j e xs k)

-- how many numbers below pass
abbrev count : ℕ → (ℕ → Bool) → ℕ
count zero p = 0
count (suc n) p = (if p n then 1 else 0) + count n p

one_le : (a b : Bool) → (a ≡ true → b ≡ true) → (if a then 1 else 0) ≤ (if b then 1 else 0)
one_le true b h = rw (h refl) (omega arith)
one_le false b h = omega arith

one_most : (a : Bool) → (if a then 1 else 0) ≤ 1
one_most true = omega arith
one_most false = omega arith

count_le : (p q : ℕ → Bool) → ((i : ℕ) → p i ≡ true → q i ≡ true) → (n : ℕ) → count n p ≤ count n q
count_le p q h zero = omega arith
count_le p q h (suc n) = let a = one_le (p n) (q n) (h n) in let b = count_le p q h n in omega arith

count_most : (p : ℕ → Bool) (n : ℕ) → count n p ≤ n
count_most p zero = omega arith
count_most p (suc n) = let a = one_most (p n) in let b = count_most p n in omega arith

-- two sets of which one is part of the other, and which have as many
one_same : (a b : Bool) (m n : ℕ) → (a ≡ true → b ≡ true) → m ≤ n → (if b then 1 else 0) + n ≤ (if a then 1 else 0) + m → (b ≡ true → a ≡ true) × (n ≤ m)
one_same true true m n k l h = (λ e. refl, omega arith)
one_same true false m n k l h = absurd (let e = k refl in cc)
one_same false true m n k l h = absurd (omega arith)
one_same false false m n k l h = (λ e. absurd (cc), omega arith)

below_suc : (i n : ℕ) → i < suc n → (i < n) ⊎ (i ≡ n)
below_suc i n h = elim (cases_lt i n) [ inl a ↦ inl a | inr a ↦ inr (omega arith) ]

count_same : (p q : ℕ → Bool) → ((i : ℕ) → p i ≡ true → q i ≡ true) → (n : ℕ) → count n q ≤ count n p → (i : ℕ) → i < n → q i ≡ true → p i ≡ true
count_same p q h zero c i l e = absurd (omega arith)
count_same p q h (suc n) c i l e =
    let s = one_same (p n) (q n) (count n p) (count n q) (h n) (count_le p q h n) c in
    elim (below_suc i n l) [ inl a ↦ count_same p q h n s.1 i a e | inr a ↦ subst (λ z. p z ≡ true) (sym a) (s.0 (subst (λ z. q z ≡ true) a e)) ]

zero_bit : (b : Bool) (m : ℕ) → (if b then 1 else 0) + m ≡ 0 → (b ≡ false) × (m ≡ 0)
zero_bit true m e = absurd (omega (arith, e))
zero_bit false m e = (refl, omega (arith, e))

count_none : (p : ℕ → Bool) (n : ℕ) → count n p ≡ 0 → (i : ℕ) → i < n → p i ≡ false
count_none p zero e i l = absurd (omega arith)
count_none p (suc n) e i l =
    let z = zero_bit (p n) (count n p) e in
    elim (below_suc i n l) [ inl a ↦ count_none p n z.1 i a | inr a ↦ subst (λ z. p z ≡ false) (sym a) z.0 ]

none_any : (p : ℕ → Bool) → ((i : ℕ) → p i ≡ false) → (xs : List ℕ) → list_any p xs ≡ false
none_any p h [] = refl
none_any p h (x ∷ xs) = rw (h x) (none_any p h xs)

not_true : (b : Bool) → (b ≡ true → ⊥) → b ≡ false
not_true true h = absurd (h refl)
not_true false h = refl

module _ (waits : ℕ → List ℕ) where
  -- numbers of which each is greater than those that it waits for
  abbrev pub Falls : (ℕ → ℕ) → Type 0
  Falls rank = (i j : ℕ) → AnyByRecursion (λ x. x ≡ j) (waits i) → rank j < rank i

  all_of : (P : ℕ → Type 0) (xs : List ℕ) → ((j : ℕ) → AnyByRecursion (λ x. x ≡ j) xs → P j) → AllByRecursion P xs
  all_of P [] h = tt
  all_of P (x ∷ xs) h = (h x (inl refl), all_of P xs (λ j k. h j (inr k)))

  every_any : (set : ℕ → Bool) (P : ℕ → Type 0) → ((j : ℕ) → P j → set j ≡ false) → (xs : List ℕ) → AllByRecursion P xs → list_any set xs ≡ false
  every_any set P h [] e = refl
  every_any set P h (x ∷ xs) e = rw (h x e.0) (every_any set P h xs e.1)

  -- == From ranks ==

  none_below : (rank : ℕ → ℕ) → Falls rank → (set : ℕ → Bool) → Stuck waits set → (b i : ℕ) → rank i < b → set i ≡ false
  none_below rank falls set stuck zero i l = absurd (omega arith)
  none_below rank falls set stuck (suc b) i l =
      not_true (set i) (λ e. let a = stuck i e in
      let c = every_any set (λ j. rank j < rank i) (λ j k. none_below rank falls set stuck b j (omega arith)) (waits i) (all_of (λ j. rank j < rank i) (waits i) (falls i)) in cc)

  pub none_stuck : (rank : ℕ → ℕ) → Falls rank → (set : ℕ → Bool) → Stuck waits set → (i : ℕ) → set i ≡ false
  none_stuck rank falls set stuck i = none_below rank falls set stuck (suc (rank i)) i (omega arith)

  -- == To ranks ==

  module _ (n : ℕ) (beyond : (i : ℕ) → n ≤ i → waits i ≡ []) (none : (set : ℕ → Bool) → Stuck waits set → (i : ℕ) → set i ≡ false) where
    -- so many steps lead on from here
    abbrev steps : ℕ → ℕ → Bool
    steps zero i = true
    steps (suc k) i = list_any (steps k) (waits i)

    steps_less : (k i : ℕ) → steps (suc k) i ≡ true → steps k i ≡ true
    steps_less zero i e = refl
    steps_less (suc k) i e = any_more (steps (suc k)) (steps k) (steps_less k) (waits i) e

    within : (k i : ℕ) → steps (suc k) i ≡ true → i < n
    within k i e = elim (cases_lt i n) [ inl a ↦ a | inr a ↦ absurd (let w = beyond i a in let f : list_any (steps k) [] ≡ true = subst (λ z. list_any (steps k) z ≡ true) w e in cc) ]

    -- as many with one step more: they would wait for one another
    same_none : (k : ℕ) → count n (steps (suc k)) ≤ count n (steps (suc (suc k))) → (i : ℕ) → steps (suc k) i ≡ false
    same_none k c = none (steps (suc k)) (λ i e. count_same (steps (suc (suc k))) (steps (suc k)) (steps_less (suc k)) n c i (within k i e) e)

    fewer : (k : ℕ) → ((i : ℕ) → steps (suc k) i ≡ false) ⊎ (count n (steps (suc k)) + k ≤ n)
    fewer zero = inr (let c = count_most (steps 1) n in omega arith)
    fewer (suc k) = by_fewer (fewer k) (cases_lt (count n (steps (suc (suc k)))) (count n (steps (suc k))))
      where
        by_fewer : ((i : ℕ) → steps (suc k) i ≡ false) ⊎ (count n (steps (suc k)) + k ≤ n) → (count n (steps (suc (suc k))) < count n (steps (suc k))) ⊎ (count n (steps (suc k)) ≤ count n (steps (suc (suc k))))
            → ((i : ℕ) → steps (suc (suc k)) i ≡ false) ⊎ (count n (steps (suc (suc k))) + suc k ≤ n)
        by_fewer (inl h) c = inl (λ i. none_any (steps (suc k)) h (waits i))
        by_fewer (inr h) (inl c) = inr (omega arith)
        by_fewer (inr h) (inr c) = inl (λ i. none_any (steps (suc k)) (same_none k c) (waits i))

    none_far : (i : ℕ) → steps (suc n) i ≡ false
    none_far i = elim (fewer n) [ inl h ↦ h i | inr h ↦ not_true (steps (suc n) i) (λ e. let z = count_none (steps (suc n)) n (omega arith) i (within n i e) in cc) ]

    -- how many steps lead on, at most so many
    abbrev length_of : ℕ → ℕ → ℕ
    length_of zero i = 0
    length_of (suc m) i = (if steps (suc m) i then 1 else 0) + length_of m i

    shorter : (i j : ℕ) → AnyByRecursion (λ x. x ≡ j) (waits i) → (m : ℕ) → length_of m j < length_of (suc m) i
    shorter i j w zero = rw (any_at (steps 0) j refl (waits i) w) (omega arith)
    shorter i j w (suc m) =
        let h = shorter i j w m in
        let k = one_le (steps (suc m) j) (steps (suc (suc m)) i) (λ e. any_at (steps (suc m)) j e (waits i) w) in omega arith

    length_most : (m i : ℕ) → length_of m i ≤ m
    length_most zero i = omega arith
    length_most (suc m) i = let a = one_most (steps (suc m) i) in let b = length_most m i in omega arith

    last_none : (i : ℕ) → length_of (suc n) i ≡ length_of n i
    last_none i = rw (none_far i) (omega arith)

    pub rank : ℕ → ℕ
    rank i = length_of (suc n) i

    pub rank_most : (i : ℕ) → rank i ≤ suc n
    unfolding rank
    rank_most i = length_most (suc n) i

    pub rank_falls : Falls rank
    unfolding rank
    rank_falls i j w = let h = shorter i j w n in let e = last_none j in omega (arith, e)

-- == Functions ==

none_there : (i : ℕ) (functions : List FlatFunction) → length functions ≤ i → function_at i functions ≡ None
none_there i [] h = refl
none_there zero (f ∷ functions) h = absurd (omega arith)
none_there (suc i) (f ∷ functions) h = none_there i functions (omega arith)

module _ (functions : List FlatFunction) (set : ℕ → Bool) (m : IsMustSignal functions set) where
  none_beyond : (i : ℕ) → length functions ≤ i → graph_of functions set i ≡ []
  none_beyond i h = rw (none_there i functions h) refl

  none_or_more : (P : ℕ → Type 0) (c : Held) (cs : List Held) (b : Bool) → guarded_by set c.path ≡ b → ((j : ℕ) → AnyByRecursion (λ x. x ≡ j) (if b then open_callees set cs else c.callee ∷ open_callees set cs) → P j)
      → ((Guarded functions c.path → ⊥) → P c.callee) × ((j : ℕ) → AnyByRecursion (λ x. x ≡ j) (open_callees set cs) → P j)
  none_or_more P c cs true e h = (λ free. absurd (free ((guarded_decided functions set m c.path).1 e)), h)
  none_or_more P c cs false e h = (λ free. h c.callee (inl refl), λ j k. h j (inr k))

  all_open : (P : ℕ → Type 0) (cs : List Held) → ((j : ℕ) → AnyByRecursion (λ x. x ≡ j) (open_callees set cs) → P j) → AllByRecursion (λ c. (Guarded functions c.path → ⊥) → P c.callee) cs
  all_open P [] h = tt
  all_open P (c ∷ cs) h = let k = none_or_more P c cs (guarded_by set c.path) refl h in (k.0, all_open P cs k.1)

  -- a worklist in which no function is left over gives ranks
  pub ends_of : ((s : ℕ → Bool) → Stuck (graph_of functions set) s → (i : ℕ) → s i ≡ false) → CallsEnd functions
  ends_of none = record {
    rank = rank (graph_of functions set) (length functions) none_beyond none;
    most = suc (length functions);
    bounded = rank_most (graph_of functions set) (length functions) none_beyond none;
    falls = λ i f e. all_open (λ j. rank (graph_of functions set) (length functions) none_beyond none j < rank (graph_of functions set) (length functions) none_beyond none i) (calls_in [] f.body)
        (λ j w. rank_falls (graph_of functions set) (length functions) none_beyond none i j (rw e w));
  }

  open_only : (P : ℕ → Type 0) (cs : List Held) → AllByRecursion (λ c. (Guarded functions c.path → ⊥) → P c.callee) cs → (j : ℕ) → AnyByRecursion (λ x. x ≡ j) (open_callees set cs) → P j
  open_only P [] h j w = absurd w
  open_only P (c ∷ cs) h j w = by_guard (guarded_by set c.path) refl w (open_only P cs h.1 j)
    where
      by_guard : (b : Bool) → guarded_by set c.path ≡ b → AnyByRecursion (λ x. x ≡ j) (if b then open_callees set cs else c.callee ∷ open_callees set cs) → (AnyByRecursion (λ x. x ≡ j) (open_callees set cs) → P j) → P j
      by_guard true e w k = k w
      by_guard false e (inl w) k = subst P w (h.0 (λ g. let t = (guarded_decided functions set m c.path).0 g in different (sym t ∙ e)))
        where
          different : true ≡ false → ⊥
          different e = cc
      by_guard false e (inr w) k = k w

  falls_of : (ends : CallsEnd functions) (i j : ℕ) (x : Option FlatFunction) → function_at i functions ≡ x → AnyByRecursion (λ x. x ≡ j) (callees_of set x) → ends.rank j < ends.rank i
  falls_of ends i j None e w = absurd w
  falls_of ends i j (Some f) e w = open_only (λ j. ends.rank j < ends.rank i) (calls_in [] f.body) (ends.falls i f e) j w

  -- where there are ranks, a worklist leaves no function over
  pub none_left : CallsEnd functions → (s : ℕ → Bool) → Stuck (graph_of functions set) s → (i : ℕ) → s i ≡ false
  none_left ends s stuck i = none_stuck (graph_of functions set) ends.rank (λ i j w. falls_of ends i j (function_at i functions) refl w) s stuck i
