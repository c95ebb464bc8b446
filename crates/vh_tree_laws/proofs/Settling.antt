-- Settling and the bench are the same in every order, and settling is the first quiet state.
use Rattle.std.proofs.Common.{◌≡◌, ℕ, zero, suc, ◌+◌, ◌≤◌, List, [], ◌∷◌, Bool, true, false, refl, ap, sym, ◌∙◌, if◌then◌else◌, Option, Some, None, Ok, MatchOption, arith}
use Rattle.std.proofs.lemmas.List.Sorted.{IsPermutation-refl}
use Rattle.vh_tree.specs.Bits.{Bits}
use Rattle.vh_tree.specs.DeltaCycle.{Orders, AreOrders, IsOrder, delta_cycle, cycles, is_quiet}
use Rattle.vh_tree.specs.Bench.{settled, later, one_later, Schedule, IsSchedule, text_schedule, or_change, on_ok, clocked, edge, given, outp_of, read_first, readings_from, bench_readings, start_of}
use Rattle.vh_tree.specs.StaticRules.{IsStatic}
use Rattle.vh_tree_laws.specs.Laws.{IsFirstQuiet}
use Rattle.vh_tree.specs.declared.wire.Settled.{Settled}
use Rattle.vh_tree.specs.declared.wire.State.{State}
use Rattle.vh_tree.specs.declared.process.Process.{Process}
use Rattle.vh_tree.specs.declared.design.Design.{Design}
use Rattle.vh_tree_laws.proofs.Orders.{every_order}

pub text_is_schedule : (d : Design) → IsSchedule d (text_schedule d)
text_is_schedule d change k = IsPermutation-refl d.processes

module _ (d : Design) (static : IsStatic d) where
  two_orders : (s : State) (p q : List Process) → IsOrder d p → IsOrder d q → delta_cycle d p s ≡ delta_cycle d q s
  two_orders s p q hp hq = every_order d static s p hp ∙ sym (every_order d static s q hq)

  pub cycles_alike : (s : State) (first second : Orders) → AreOrders d first → AreOrders d second → (n : ℕ) → cycles d first n s ≡ cycles d second n s
  cycles_alike s first second p q zero = refl
  cycles_alike s first second p q (suc n) = ap (delta_cycle d (first n)) (cycles_alike s first second p q n) ∙ two_orders (cycles d second n s) (first n) (second n) (p n) (q n)

  pub settled_alike : (s : State) (first second : Orders) → AreOrders d first → AreOrders d second → (most : ℕ) → settled d first most s ≡ settled d second most s
  settled_alike s first second p q zero = refl
  settled_alike s first second p q (suc most) =
      ap (λ t. if is_quiet s then Some (record { state = s; count = 0 }) else one_later t)
      (settled_alike (delta_cycle d (first 0) s) (later first) (later second) (λ k. p (suc k)) (λ k. q (suc k)) most
      ∙ ap (λ u. settled d (later second) most u) (two_orders s (first 0) (second 0) (p 0) (q 0)))

  module _ (schedule : Schedule) (is : IsSchedule d schedule) (most : ℕ) where
    clocked_alike : (change : ℕ) (s : State) → clocked most d schedule change s ≡ clocked most d (text_schedule d) change s
    clocked_alike change s i = on_ok (or_change change (settled_alike s (schedule change) (text_schedule d change) (is change) (text_is_schedule d change) most i))
        (λ low. or_change (change + 1) (settled_alike (edge low) (schedule (change + 1)) (text_schedule d (change + 1)) (is (change + 1)) (text_is_schedule d (change + 1)) most i))

    readings_alike : (inputs : List Bits) (change : ℕ) (s : State) → readings_from most d schedule change s inputs ≡ readings_from most d (text_schedule d) change s inputs
    readings_alike [] change s i = on_ok (clocked_alike change s i) (λ high. Ok (outp_of high ∷ []))
    readings_alike (input ∷ inputs) change s i =
        on_ok (clocked_alike change s i) (λ high. read_first (outp_of high) (readings_alike inputs (change + 2) (given input high) i))

    pub bench_alike : (inputs : List Bits) → bench_readings most d schedule inputs ≡ bench_readings most d (text_schedule d) inputs
    bench_alike inputs = readings_alike inputs 1 (start_of d)

-- the first cycle apart
cycles_later : (d : Design) (orders : Orders) (n : ℕ) (s : State) → cycles d orders (suc n) s ≡ cycles d (later orders) n (delta_cycle d (orders 0) s)
cycles_later d orders zero s = refl
cycles_later d orders (suc n) s = ap (delta_cycle d (orders (suc n))) (cycles_later d orders n s)

abbrev First : Design → Orders → ℕ → State → Option Settled → Type 0
First d orders most s t = MatchOption t ((k : ℕ) → k ≤ most → is_quiet (cycles d orders k s) ≡ false) (IsFirstQuiet d orders most s)

at_once : (d : Design) (orders : Orders) (most : ℕ) (s : State) → is_quiet s ≡ true → First d orders most s (Some (record { state = s; count = 0 }))
at_once d orders most s e = record { in_time = omega arith; reached = refl; quiet = e; not_before = λ k h. absurd (omega arith) }

busy_from : (d : Design) (orders : Orders) (s : State) (k : ℕ) → is_quiet s ≡ false → ((j : ℕ) → k ≡ suc j → is_quiet (cycles d (later orders) j (delta_cycle d (orders 0) s)) ≡ false) → is_quiet (cycles d orders k s) ≡ false
busy_from d orders s zero e rest = e
busy_from d orders s (suc j) e rest = ap is_quiet (cycles_later d orders j s) ∙ rest j refl

one_cycle_later : (d : Design) (orders : Orders) (most : ℕ) (s : State) (t : Option Settled) → is_quiet s ≡ false →
    First d (later orders) most (delta_cycle d (orders 0) s) t → First d orders (suc most) s (one_later t)
one_cycle_later d orders most s None e h = λ k le. busy_from d orders s k e (λ j is. h j (omega arith))
one_cycle_later d orders most s (Some t) e h = record {
  in_time = let i = h.in_time in omega arith;
  reached = h.reached ∙ sym (cycles_later d orders t.count s);
  quiet = h.quiet;
  not_before = λ k lt. busy_from d orders s k e (λ j is. h.not_before j (omega arith));
}

settled_case : (d : Design) (orders : Orders) (most : ℕ) (s : State) (t : Option Settled) (q : Bool) → is_quiet s ≡ q → (First d (later orders) most (delta_cycle d (orders 0) s) t) →
    First d orders (suc most) s (if q then Some (record { state = s; count = 0 }) else one_later t)
settled_case d orders most s t true e h = at_once d orders (suc most) s e
settled_case d orders most s t false e h = one_cycle_later d orders most s t e h

none_case : (d : Design) (orders : Orders) (s : State) (q : Bool) → is_quiet s ≡ q → First d orders 0 s (if q then Some (record { state = s; count = 0 }) else None)
none_case d orders s true e = at_once d orders 0 s e
none_case d orders s false e = λ k le. busy_from d orders s k e (λ j is. absurd (omega arith))

pub settled_is_first : (d : Design) (orders : Orders) (most : ℕ) (s : State) → First d orders most s (settled d orders most s)
settled_is_first d orders zero s = none_case d orders s (is_quiet s) refl
settled_is_first d orders (suc most) s = settled_case d orders most s (settled d (later orders) most (delta_cycle d (orders 0) s)) (is_quiet s) refl (settled_is_first d (later orders) most (delta_cycle d (orders 0) s))
