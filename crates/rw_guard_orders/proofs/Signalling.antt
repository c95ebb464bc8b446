-- The must-signal functions: there is a set of them, and one alone.
use Rattle.std.proofs.Common.{◌≡◌, ℕ, zero, suc, ◌+◌, ◌<◌, List, [], ◌∷◌, length, Option, Some, None, Bool, true, false, nat_eq, ◌⊎◌, inl, inr, refl, arith, sym, ◌∙◌, subst}
use Rattle.std.specs.List.{AllByRecursion, IsDistinct, list_any}
use Rattle.std.proofs.lemmas.Map.Keys.{IsDistinct-cons}
use Rattle.std.proofs.lemmas.Map.Steps.{length-le_from_distinct_below}
use Rattle.rw_core_flat.specs.Programs.{FlatFunction, function_at}
use Rattle.rw_guard_rules.specs.Signals.{Signals}
use Rattle.rw_guard_rules.specs.Rules.{IsMustSignal, signals_by}
use Rattle.rw_guard_rules.proofs.Ranks.{in_closed, of_derived}
use Rattle.rw_guard_orders.proofs.Lists.{true_or_false, same_truth, below_suc, pick, apart}

there : (i : ℕ) (fs : List FlatFunction) (f : FlatFunction) → function_at i fs ≡ Some f → i < length fs
there i [] f e = absurd (cc)
there zero (g ∷ fs) f e = omega arith
there (suc i) (g ∷ fs) f e = let h = there i fs f e in omega arith

module _ (functions : List FlatFunction) where
  -- a function that is must-signal by a set, and isn't in it
  abbrev Missed : (ℕ → Bool) → Type 0
  Missed set = (i : ℕ) × (f : FlatFunction) × (function_at i functions ≡ Some f) × (signals_by set f.body ≡ true) × (set i ≡ false)

  abbrev ClosedBelow : (ℕ → Bool) → ℕ → Type 0
  ClosedBelow set n = (i : ℕ) → i < n → (f : FlatFunction) → function_at i functions ≡ Some f → signals_by set f.body ≡ true → set i ≡ true

  -- one function more
  one_more : (set : ℕ → Bool) (n : ℕ) → ClosedBelow set n → (x : Option FlatFunction) → function_at n functions ≡ x → Missed set ⊎ ClosedBelow set (suc n)
  one_more set n h None e = inr (λ i l f k s. elim (below_suc i n l) [
    | inl a ↦ h i a f k s
    | inr a ↦ let z : None ≡ Some f = sym e ∙ subst (λ z. function_at z functions ≡ Some f) a k in absurd (cc)
  ])
  one_more set n h (Some g) e = elim (true_or_false (set n)) [
    | inl t ↦ inr (λ i l f k s. elim (below_suc i n l) [ inl a ↦ h i a f k s | inr a ↦ subst (λ z. set z ≡ true) (sym a) t ])
    | inr t ↦ elim (true_or_false (signals_by set g.body)) [
      | inl s ↦ inl (n, g, e, s, t)
      | inr s ↦ inr (λ i l f k r. elim (below_suc i n l) [
        | inl a ↦ h i a f k r
        | inr a ↦ let z : Some g ≡ Some f = sym e ∙ subst (λ z. function_at z functions ≡ Some f) a k in
            let w : g ≡ f = cc in let v : signals_by set g.body ≡ true = subst (λ z. signals_by set z.body ≡ true) (sym w) r in absurd (cc)
      ])
    ]
  ]

  seek : (set : ℕ → Bool) (n : ℕ) → Missed set ⊎ ClosedBelow set n
  seek set zero = inr (λ i l. absurd (omega arith))
  seek set (suc n) = elim (seek set n) [ inl m ↦ inl m | inr h ↦ one_more set n h (function_at n functions) refl ]

  abbrev IsDerived : ℕ → Type 0
  IsDerived i = (f : FlatFunction) × (function_at i functions ≡ Some f) × Signals functions f.body

  abbrev set_of : List ℕ → ℕ → Bool
  set_of xs i = list_any (nat_eq i) xs

  grow : (fuel : ℕ) (xs : List ℕ) → IsDistinct nat_eq xs → AllByRecursion IsDerived xs → length functions < fuel + length xs → (set : ℕ → Bool) × IsMustSignal functions set
  grow zero xs d k l =
      let most = length-le_from_distinct_below xs (length functions) d (λ q h. let p = pick IsDerived q xs k h in there q functions p.0 p.1) in absurd (omega arith)
  grow (suc fuel) xs d k l = elim (seek (set_of xs) (length functions)) [
    | inl m ↦ grow fuel (m.0 ∷ xs) (IsDistinct-cons nat_eq m.0 xs (apart m.0 xs m.4) d)
        ((m.1, m.2, of_derived functions (set_of xs) (λ i e. pick IsDerived i xs k e) (m.1).body m.3), k) (omega arith)
    | inr closed ↦ (set_of xs, record { closed = λ i f e s. closed i (there i functions f e) f e s; derived = λ i e. pick IsDerived i xs k e })
  ]

  pub one_set : (set : ℕ → Bool) × IsMustSignal functions set
  unfolding IsDistinct
  one_set = grow (suc (length functions)) [] tt tt (omega arith)

  in_other : (a b : ℕ → Bool) → IsMustSignal functions a → IsMustSignal functions b → (i : ℕ) → a i ≡ true → b i ≡ true
  in_other a b m k i e = let d = m.derived i e in k.closed i d.0 d.1 (in_closed functions b k.closed d.2)

  pub same_set : (a b : ℕ → Bool) → IsMustSignal functions a → IsMustSignal functions b → (i : ℕ) → a i ≡ b i
  same_set a b m k i = same_truth (a i) (b i) (in_other a b m k i) (in_other b a k m i)
