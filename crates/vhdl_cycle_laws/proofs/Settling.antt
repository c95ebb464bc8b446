-- Any number of delta cycles over buffers, and settling.
use Rattle.std.proofs.Common.{◌≡◌, ℕ, zero, suc, ◌<◌, ◌≤◌, ◌⊎◌, inl, inr, false, Option, Some, None, MatchOption, refl, ap, sym, ◌∙◌, arith}
use Rattle.std.proofs.lemmas.Bool.{cases_lt}
use mathlib.Core.Bool.{true≢false}
use Rattle.vh_tree.specs.DeltaCycle.{Orders, AreOrders, delta_cycle, cycles, is_quiet as is_quiet_state}
use Rattle.vh_tree.specs.Bench.{settled}
use Rattle.vh_tree_laws.specs.Laws.{OneOrderLaw, IsFirstQuiet, SettledLaw}
use Rattle.vh_tree.specs.StaticRules.{IsStatic}
use Rattle.vh_tree.specs.declared.design.Design.{Design}
use Rattle.vh_tree.specs.declared.wire.Settled.{Settled}
use Rattle.vh_tree.specs.declared.wire.State.{State as Stands}
use Rattle.vhdl_cycle_flat.specs.Cycles.{State, cycles_of, is_quiet, Settles}
use Rattle.vhdl_cycle_flat.specs.Resolving.{IsResolved}
use Rattle.vhdl_cycle_flat.specs.Standing.{FitsDesign, state_at, DeltaLaw}
use Rattle.vhdl_cycle_flat.specs.declared.slot.Resolved.{Resolved}
use Rattle.vhdl_cycle_laws.specs.Changes.{settled_at, CyclesLaw, SettlingLaw}
use Rattle.vhdl_cycle_laws.proofs.Quiet.{quiet_same}

pub cycles_stand : DeltaLaw → OneOrderLaw → CyclesLaw
cycles_stand delta one d static r resolved s fits orders are zero = (fits, refl)
cycles_stand delta one d static r resolved s fits orders are (suc k) =
    let earlier = cycles_stand delta one d static r resolved s fits orders are k in
    let last = delta d static r resolved (cycles_of r.processes r.store k s) earlier.0 in
    (last.0, last.1 ∙ ap (delta_cycle d d.processes) earlier.1 ∙ sym (one d static (cycles d orders k (state_at d s)) (orders k) (are k)))

module _ (law : CyclesLaw) (d : Design) (static : IsStatic d) (r : Resolved) (resolved : IsResolved d r) (s : State) (fits : FitsDesign d s) (orders : Orders) (are : AreOrders d orders) where
  quiet_after : (k : ℕ) → is_quiet_state (cycles d orders k (state_at d s)) ≡ is_quiet (cycles_of r.processes r.store k s)
  quiet_after k =
      let after = law d static r resolved s fits orders are k in
      ap is_quiet_state (sym after.1) ∙ quiet_same d (cycles_of r.processes r.store k s) after.0

  -- quiet after both counts, and after none before either
  counts_same : (most k : ℕ) (t : State) (u : Settled) → Settles r.processes r.store k s t → IsFirstQuiet d orders most (state_at d s) u → (u.count < k) ⊎ (k ≤ u.count) → (k < u.count) ⊎ (u.count ≤ k) → u.count ≡ k
  counts_same most k t u h first (inl below) other = absurd (true≢false (sym (sym (ap is_quiet_state first.reached) ∙ first.quiet) ∙ quiet_after u.count ∙ h.not_before u.count below))
  counts_same most k t u h first (inr above) (inl later) = absurd (true≢false (sym (sym (ap is_quiet h.reached) ∙ h.quiet) ∙ sym (quiet_after k) ∙ first.not_before k later))
  counts_same most k t u h first (inr above) (inr below) = omega arith

  found : (most k : ℕ) (t : State) → k ≤ most → Settles r.processes r.store k s t → (o : Option Settled) →
      MatchOption o ((j : ℕ) → j ≤ most → is_quiet_state (cycles d orders j (state_at d s)) ≡ false) (IsFirstQuiet d orders most (state_at d s)) → o ≡ settled_at d t (Some k)
  found most k t within h None none = absurd (true≢false (sym (sym (ap is_quiet h.reached) ∙ h.quiet) ∙ sym (quiet_after k) ∙ none k within))
  found most k t within h (Some u) first =
      let same : u.count ≡ k = counts_same most k t u h first (cases_lt u.count k) (cases_lt k u.count) in
      let state : u.state ≡ state_at d t =
      first.reached ∙ ap (λ (j : ℕ). cycles d orders j (state_at d s)) same ∙ sym (law d static r resolved s fits orders are k).1 ∙ ap (state_at d) (sym h.reached) in
      ap (λ (j : ℕ). Some (record { state = u.state; count = j })) same ∙ ap (λ (a : Stands). Some (record { state = a; count = k })) state

  not_found : (most : ℕ) (t : State) → ((j : ℕ) → j ≤ most → is_quiet (cycles_of r.processes r.store j s) ≡ false) → (o : Option Settled) →
      MatchOption o ((j : ℕ) → j ≤ most → is_quiet_state (cycles d orders j (state_at d s)) ≡ false) (IsFirstQuiet d orders most (state_at d s)) → o ≡ settled_at d t None
  not_found most t busy None none = refl
  not_found most t busy (Some u) first =
      absurd (true≢false (sym (sym (ap is_quiet_state first.reached) ∙ first.quiet) ∙ quiet_after u.count ∙ busy u.count first.in_time))

pub settling_stands : CyclesLaw → SettledLaw → SettlingLaw
settling_stands law settles d static r resolved s fits orders are most t None h =
    not_found law d static r resolved s fits orders are most t h (settled d orders most (state_at d s)) (settles d orders most (state_at d s))
settling_stands law settles d static r resolved s fits orders are most t (Some k) h =
    found law d static r resolved s fits orders are most k t h.0 h.1 (settled d orders most (state_at d s)) (settles d orders most (state_at d s))
