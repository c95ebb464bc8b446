-- What settling over the buffers of a simulator says of its design.
use Rattle.std.proofs.Common.{◌≡◌, ◌≤◌, ℕ, sym, subst, false, Option, Some, None, MatchOption, Result, Ok, Err, codes}
use Rattle.vh_tree.specs.DeltaCycle.{Orders, AreOrders, cycles, is_quiet}
use Rattle.vh_tree.specs.Bench.{settled, text_schedule}
use Rattle.vh_tree_laws.specs.Laws.{TextOrderLaw, SettledLaw, IsFirstQuiet}
use Rattle.vh_tree.specs.declared.wire.Settled.{Settled}
use Rattle.vh_tree.specs.declared.wire.State.{State}
use Rattle.vhdl_cycle.specs.declared.unsettled.NotSettled.{NotSettled}
use Rattle.vh_tree.specs.declared.design.Design.{Design}
use Rattle.vhdl_cycle_flat.specs.Cycles.{Reaches, IsSettling}
use Rattle.vhdl_cycle_flat.specs.Resolving.{IsResolved}
use Rattle.vhdl_cycle_flat.specs.Standing.{FitsDesign}
use Rattle.vhdl_cycle_laws.specs.Changes.{CyclesLaw, SettlingLaw}
use Rattle.vhdl_cycle.specs.declared.sim.Sim.{Sim}
use Rattle.vhdl_cycle.specs.Buffers.{IsSameMachine}
use Rattle.vhdl_cycle.specs.Simulating.{StandsAt, Simulates, flat_of, state_of, most_cycles, IsSettled, IsFirstQuietNow}

-- after any number of delta cycles the simulator runs the same design
pub runs_on : CyclesLaw → TextOrderLaw → (sim new : Sim) → IsSameMachine sim new → Reaches sim.resolved.processes sim.resolved.store (flat_of sim) (flat_of new) →
    (d : Design) → Simulates d sim → Simulates d new
runs_on law text sim new same (k, reached) d runs = record {
  static = runs.static;
  resolved = subst (IsResolved d) same.resolved runs.resolved;
  fits = subst (FitsDesign d) (sym reached) ((law d runs.static sim.resolved runs.resolved (flat_of sim) runs.fits (text_schedule d 0) (text d 0) k).0);
  inp = subst (λ at. StandsAt d (codes "inp") at) same.inp runs.inp;
  outp = subst (λ at. StandsAt d (codes "outp") at) same.outp runs.outp;
}

module _ (law : SettlingLaw) (sim new : Sim) where
  -- an answer of settling over the buffers is that of settling
  pub settles_at : (count : ℕ) → IsSettling sim.resolved.processes sim.resolved.store 64 (flat_of sim) (flat_of new) (Some count) →
      (d : Design) → Simulates d sim → (orders : Orders) → AreOrders d orders → settled d orders most_cycles (state_of d sim) ≡ Some (record { state = state_of d new; count = count })
  unfolding most_cycles
  settles_at count settling d runs orders are = law d runs.static sim.resolved runs.resolved (flat_of sim) runs.fits orders are 64 (flat_of new) (Some count) settling

  pub settles_never : IsSettling sim.resolved.processes sim.resolved.store 64 (flat_of sim) (flat_of new) None →
      (d : Design) → Simulates d sim → (orders : Orders) → AreOrders d orders → settled d orders most_cycles (state_of d sim) ≡ None
  unfolding most_cycles
  settles_never settling d runs orders are = law d runs.static sim.resolved runs.resolved (flat_of sim) runs.fits orders are 64 (flat_of new) None settling

-- the state that settling gives is the first quiet one
pub first_quiet : SettledLaw → (d : Design) (orders : Orders) (s new : State) (change : ℕ) (result : Result ℕ NotSettled) →
    IsSettled (settled d orders most_cycles s) change new result → IsFirstQuietNow d orders s new result
first_quiet law d orders s new change (Ok count) is =
    let P : Option Settled → Type 0 = λ o. MatchOption o ((k : ℕ) → k ≤ most_cycles → is_quiet (cycles d orders k s) ≡ false) (IsFirstQuiet d orders most_cycles s) in
    subst P is (law d orders most_cycles s)
first_quiet law d orders s new change (Err fault) is =
    let P : Option Settled → Type 0 = λ o. MatchOption o ((k : ℕ) → k ≤ most_cycles → is_quiet (cycles d orders k s) ≡ false) (IsFirstQuiet d orders most_cycles s) in
    subst P is.0 (law d orders most_cycles s)
