-- What changes of ports say of a design, by what settling says of it.
use Rattle.std.proofs.Common.{◌≡◌, ℕ, ◌+◌, length, min, sym, ◌∙◌, ap, refl, subst, Option, Some, None, Result, Ok, Err, IsErrAnd, codes}
use Rattle.vh_tree.specs.Bits.{Bytes, Bits}
use Rattle.vh_tree.specs.DeltaCycle.{Orders}
use Rattle.vh_tree.specs.Bench.{Schedule, settled, clocked, or_change, on_ok, edge, set_port}
use Rattle.vh_tree.specs.declared.design.Design.{Design}
use Rattle.vh_tree.specs.declared.wire.Settled.{Settled}
use Rattle.vh_tree.specs.declared.wire.State.{State}
use Rattle.vhdl_cycle_flat.specs.declared.slot.Slot.{Slot}
use Rattle.vhdl_cycle_flat.specs.Resolving.{IsResolved}
use Rattle.vhdl_cycle_flat.specs.Standing.{FitsDesign, state_at}
use Rattle.vhdl_cycle_laws.specs.Changes.{GivenLaw, given_at}
use Rattle.vhdl_cycle.specs.declared.unsettled.NotSettled.{NotSettled}
use Rattle.vhdl_cycle.specs.declared.sim.Sim.{Sim}
use Rattle.vhdl_cycle.specs.Buffers.{IsSameMachine}
use Rattle.vhdl_cycle.specs.Simulating.{StandsAt, Simulates, flat_of, state_of, most_cycles, last_change, IsChanged}

-- the width of the place of `inp`
abbrev len_of : Option Slot → ℕ
len_of None = 0
len_of (Some at) = at.len

pub inp_wide : (d : Design) (at : Slot) → StandsAt d (codes "inp") at → d.inp ≡ at.len
inp_wide d at stands = ap len_of stands.place

-- a port that is given a value over the buffers is given it in the state
module _ (law : GivenLaw) (at : Slot) (bits : Bits) (sim new : Sim) (flat : flat_of new ≡ given_at at bits (flat_of sim)) where
  pub given_runs : IsSameMachine sim new → (d : Design) → Simulates d sim → (x : Bytes) → StandsAt d x at → length bits ≡ at.len → Simulates d new
  given_runs same d runs x stands wide = record {
    static = runs.static;
    resolved = subst (IsResolved d) same.resolved runs.resolved;
    fits = subst (FitsDesign d) (sym flat) ((law d (flat_of sim) runs.fits x at stands.place bits wide).0);
    inp = subst (λ place. StandsAt d (codes "inp") place) same.inp runs.inp;
    outp = subst (λ place. StandsAt d (codes "outp") place) same.outp runs.outp;
  }

  pub given_state : (d : Design) → Simulates d sim → (x : Bytes) → StandsAt d x at → length bits ≡ at.len → state_of d new ≡ set_port x bits (state_of d sim)
  given_state d runs x stands wide = ap (state_at d) flat ∙ (law d (flat_of sim) runs.fits x at stands.place bits wide).1

-- a change that settles, and one that does not
module _ (d : Design) (orders : Orders) (s : State) (change : ℕ) (new : State) where
  pub changed : (count : ℕ) → settled d orders most_cycles s ≡ Some (record { state = new; count = count }) → IsChanged (or_change change (settled d orders most_cycles s)) new (Ok tt)
  changed count is = subst (λ t. IsChanged (or_change change t) new (Ok tt)) (sym is) refl

  pub unchanged : (fault : NotSettled) → (settled d orders most_cycles s ≡ None) × (fault.0 ≡ min change last_change) →
      (result : Result Unit NotSettled) → IsErrAnd result (λ e. e ≡ fault) → IsChanged (or_change change (settled d orders most_cycles s)) new result
  unchanged fault is (Ok done) err = absurd err
  unchanged fault is (Err other) err = subst (λ t. IsChanged (or_change change t) new (Err other)) (sym is.0) ((λ i. (err i).0) ∙ is.1)

-- another number that is shown the same
renumbered : (j k : ℕ) (t : Option Settled) (new : State) (result : Result Unit NotSettled) → min j last_change ≡ min k last_change → IsChanged (or_change j t) new result → IsChanged (or_change k t) new result
renumbered j k (Some t) new (Ok done) same is = is
renumbered j k (Some t) new (Err fault) same is = is
renumbered j k None new (Ok done) same is = is
renumbered j k None new (Err fault) same is = is ∙ same

-- two changes: the first settles, or it does not
module _ (d : Design) (schedule : Schedule) (change : ℕ) (s mid low : State) (same : mid ≡ s) where
  abbrev second : State → Result State ℕ
  second low = or_change (change + 1) (settled d (schedule (change + 1)) most_cycles (edge low))

  abbrev both : Option Settled → Result State ℕ
  both t = on_ok (or_change change t) second

  settles : (t : Option Settled) (number : ℕ) (new : State) (result : Result Unit NotSettled) → min number last_change ≡ min (change + 1) last_change →
      IsChanged (or_change change t) low (Ok tt) → IsChanged (or_change number (settled d (schedule (change + 1)) most_cycles (edge low))) new result → IsChanged (both t) new result
  settles None number new result shown is then = absurd is
  settles (Some t) number new result shown is then =
      subst (λ u. IsChanged (second u) new result) is (renumbered number (change + 1) (settled d (schedule (change + 1)) most_cycles (edge low)) new result shown then)

  fails : (t : Option Settled) (fault : NotSettled) → IsChanged (or_change change t) low (Err fault) → (result : Result Unit NotSettled) → IsErrAnd result (λ e. e ≡ fault) → IsChanged (both t) low result
  fails None fault is (Ok done) err = absurd err
  fails None fault is (Err other) err = (λ i. (err i).0) ∙ is
  fails (Some t) fault is result err = absurd is

  pub clocked_on : (number : ℕ) (new : State) (result : Result Unit NotSettled) → min number last_change ≡ min (change + 1) last_change →
      IsChanged (or_change change (settled d (schedule change) most_cycles mid)) low (Ok tt) →
      IsChanged (or_change number (settled d (schedule (change + 1)) most_cycles (edge low))) new result → IsChanged (clocked most_cycles d schedule change s) new result
  clocked_on number new result shown is then =
      subst (λ u. IsChanged (clocked most_cycles d schedule change u) new result) same (settles (settled d (schedule change) most_cycles mid) number new result shown is then)

  pub clocked_off : (fault : NotSettled) → IsChanged (or_change change (settled d (schedule change) most_cycles mid)) low (Err fault) →
      (result : Result Unit NotSettled) → IsErrAnd result (λ e. e ≡ fault) → IsChanged (clocked most_cycles d schedule change s) low result
  clocked_off fault is result err =
      subst (λ u. IsChanged (clocked most_cycles d schedule change u) low result) same (fails (settled d (schedule change) most_cycles mid) fault is result err)
