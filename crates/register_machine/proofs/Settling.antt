-- Settling, delta cycle by delta cycle, whatever the orders of the processes.
use Rattle.std.proofs.Common.{◌≡◌, ℕ, zero, suc, ◌+◌, ◌≤◌, List, ap, ◌∙◌, Bool, true, false, Some, None, Ok, arith}
use Rattle.std.specs.Prelude.{if◌then◌else◌}
use Rattle.vh_tree.specs.DeltaCycle.{Orders, AreOrders, IsOrder, delta_cycle, is_quiet}
use Rattle.vh_tree.specs.Bench.{settled, one_later, later, or_change, on_ok, edge, clocked, Schedule, IsSchedule}
use Rattle.vh_tree.specs.declared.process.Process.{Process}
use Rattle.vh_tree.specs.declared.design.Design.{Design}
use Rattle.vh_tree.specs.declared.wire.State.{State}

-- one cycle leads from one state to another
pub record Steps (d : Design) (s u : State) : Type 0 where
  pub to : (order : List Process) → IsOrder d order → delta_cycle d order s ≡ u

pub goes : {d : Design} {s u v : State} → Steps d s u → u ≡ v → Steps d s v
goes steps e = record { to = λ order h. steps.to order h ∙ e }

-- quiet after exactly n cycles
pub record Settles (d : Design) (n : ℕ) (s t : State) : Type 0 where
  pub by : (orders : Orders) → AreOrders d orders → (most : ℕ) → n ≤ most → settled d orders most s ≡ Some (record { state = t; count = n })

done_by : (d : Design) (orders : Orders) (most : ℕ) (s : State) → is_quiet s ≡ true → settled d orders most s ≡ Some (record { state = s; count = 0 })
done_by d orders zero s q = ap (λ (b : Bool). if b then Some (record { state = s; count = 0 }) else None) q
done_by d orders (suc most) s q =
    ap (λ (b : Bool). if b then Some (record { state = s; count = 0 }) else one_later (settled d (later orders) most (delta_cycle d (orders 0) s))) q

pub done : (d : Design) (s : State) → is_quiet s ≡ true → Settles d 0 s s
done d s q = record { by = λ orders are most h. done_by d orders most s q }

one_more_by : (d : Design) (orders : Orders) (most n : ℕ) (s u t : State) → Steps d s u → is_quiet s ≡ false → Settles d n u t → AreOrders d orders →
    suc n ≤ most → settled d orders most s ≡ Some (record { state = t; count = suc n })
one_more_by d orders zero n s u t steps busy rest are h = absurd (omega arith)
one_more_by d orders (suc most) n s u t steps busy rest are h =
    ap (λ (b : Bool). if b then Some (record { state = s; count = 0 }) else one_later (settled d (later orders) most (delta_cycle d (orders 0) s))) busy
    ∙ ap (λ (x : State). one_later (settled d (later orders) most x)) (steps.to (orders 0) (are 0))
    ∙ ap one_later (rest.by (later orders) (λ k. are (suc k)) most (omega arith))

-- one cycle, and then n
pub one_more : (d : Design) (n : ℕ) (s u t : State) → Steps d s u → is_quiet s ≡ false → Settles d n u t → Settles d (suc n) s t
one_more d n s u t steps busy rest = record { by = λ orders are most h. one_more_by d orders most n s u t steps busy rest are h }

-- quiet after at most so many cycles
pub record SettlesWithin (most : ℕ) (d : Design) (s t : State) : Type 0 where
  pub count : ℕ
  pub few : count ≤ most
  pub settles : Settles d count s t

-- a change with a low clock, and then one with a high clock
pub clocked-settles : (most : ℕ) (d : Design) (schedule : Schedule) (change : ℕ) (s low high : State) → IsSchedule d schedule →
    SettlesWithin most d s low → SettlesWithin most d (edge low) high → clocked most d schedule change s ≡ Ok high
clocked-settles most d schedule change s low high are first second =
    ap (λ t. on_ok (or_change change t) (λ l. or_change (change + 1) (settled d (schedule (change + 1)) most (edge l)))) (first.settles.by (schedule change) (are change) most first.few)
    ∙ ap (or_change (change + 1)) (second.settles.by (schedule (change + 1)) (are (change + 1)) most second.few)
