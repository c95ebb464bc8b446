-- What the simulator's answers say of two changes.
use Rattle.std.proofs.Common.{◌≡◌, ℕ, ◌+◌, ◌≤◌, min, Option, Some, None, Result, Ok, Err, refl, ap, sym, ◌∙◌, arith}
use Rattle.vh_tree.specs.Bench.{Schedule, clocked, edge, on_ok, or_change, settled}
use Rattle.vh_tree.specs.declared.design.Design.{Design}
use Rattle.vh_tree.specs.declared.wire.State.{State}
use Rattle.vh_tree.specs.declared.wire.Settled.{Settled}
use Rattle.vhdl_cycle.specs.Simulating.{most_cycles, IsChanged, last_change}
use Rattle.vhdl_cycle.specs.declared.unsettled.NotSettled.{NotSettled}

-- the last change's number
pub last_is : last_change ≡ 4294967295
unfolding last_change
last_is = refl

-- the second of two changes
abbrev then_high : Design → Schedule → ℕ → State → Result State ℕ
then_high d schedule change low = or_change (change + 1) (settled d (schedule (change + 1)) most_cycles (edge low))

-- the first change doesn't settle
pub low_failed : (d : Design) (schedule : Schedule) (change : ℕ) (s : State) → settled d (schedule change) most_cycles s ≡ None → clocked most_cycles d schedule change s ≡ Err change
low_failed d schedule change s none = ap (λ o. on_ok (or_change change o) (then_high d schedule change)) none

-- it does, and the second counts
pub low_settled : (d : Design) (schedule : Schedule) (change : ℕ) (s : State) (t : Settled) → settled d (schedule change) most_cycles s ≡ Some t →
    clocked most_cycles d schedule change s ≡ or_change (change + 1) (settled d (schedule (change + 1)) most_cycles (edge t.state))
low_settled d schedule change s t some = ap (λ o. on_ok (or_change change o) (then_high d schedule change)) some

-- a change that was made
pub changed_done : (r : Result State ℕ) (new : State) (done : Unit {0}) → IsChanged r new (Ok done) → r ≡ Ok new
changed_done (Ok s) new done e = ap Ok (sym e)
changed_done (Err k) new done e = absurd e

-- a change of this number that wasn't
pub change_failed : (o : Option Settled) (change : ℕ) (new : State) (fault : NotSettled) → change ≤ last_change → IsChanged (or_change change o) new (Err fault) → or_change change o ≡ Err fault.0
change_failed None change new fault few e = let least : min change last_change ≡ change = omega (arith, few) in ap Err (sym (e ∙ least))
change_failed (Some t) change new fault few e = absurd e

-- two changes, of which one wasn't made
high_or_low : (o : Option Settled) (later : State → Option Settled) (change : ℕ) (new : State) (fault : NotSettled) → change + 1 ≤ last_change →
    IsChanged (on_ok (or_change change o) (λ low. or_change (change + 1) (later low))) new (Err fault) → on_ok (or_change change o) (λ low. or_change (change + 1) (later low)) ≡ Err fault.0
high_or_low None later change new fault few e = change_failed None change new fault (omega (arith, few)) e
high_or_low (Some t) later change new fault few e = change_failed (later t.state) (change + 1) new fault few e

pub clocked_failed : (d : Design) (schedule : Schedule) (change : ℕ) (s new : State) (fault : NotSettled) → change + 1 ≤ last_change → IsChanged (clocked most_cycles d schedule change s) new (Err fault) →
    clocked most_cycles d schedule change s ≡ Err fault.0
clocked_failed d schedule change s new fault few e =
    high_or_low (settled d (schedule change) most_cycles s) (λ low. settled d (schedule (change + 1)) most_cycles (edge low)) change new fault few e
