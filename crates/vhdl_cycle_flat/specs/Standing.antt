-- What flat buffers stand for: the ports and signals of a design, with their current and pending values.
use Rattle.std.specs.Prelude.{◌≡◌, List, [], ◌∷◌, length, take, drop, Bool, true, false, Some, None}
use Rattle.vh_tree.specs.Bits.{Bits}
use Rattle.vh_tree.specs.DeltaCycle.{Wires, delta_cycle, is_quiet as is_quiet_state}
use Rattle.vh_tree.specs.StaticRules.{IsStatic, process_vars}
use Rattle.vh_tree.specs.declared.function.Var.{Var}
use Rattle.vh_tree.specs.declared.design.Design.{Design}
use Rattle.vh_tree.specs.declared.wire.Wire.{Wire}
use Rattle.vh_tree.specs.declared.wire.State.{State as Stands}
use Rattle.vhdl_cycle_flat.specs.Cycles.{State, delta_of, is_quiet}
use Rattle.vhdl_cycle_flat.specs.Names.{total_width}
use Rattle.vhdl_cycle_flat.specs.Resolving.{IsResolved}
use Rattle.vhdl_cycle_flat.specs.declared.slot.Resolved.{Resolved}

-- a port or signal, with its current bits, those of the next cycle, and whether they are pending
abbrev pub wire_at : Var → Bits → Bits → Bool → Wire
wire_at v now next true = record { name = v.name; value = now; pending = Some next }
wire_at v now next false = record { name = v.name; value = now; pending = None }

-- ports and signals whose bits stand one after another
abbrev pub wires_at : List Var → Bits → Bits → List Bool → Wires
wires_at [] now next pending = []
wires_at (v ∷ vs) now next [] = []
wires_at (v ∷ vs) now next (p ∷ ps) = wire_at v (take v.width now) (take v.width next) p ∷ wires_at vs (drop v.width now) (drop v.width next) ps

-- the state that buffers stand for
abbrev pub state_at : Design → State → Stands
state_at d s = record { wires = wires_at (process_vars d) s.now s.next s.pending; starting = s.starting }

-- where nothing is pending, the next bits are the current ones
abbrev pub AreStill : List Var → Bits → Bits → List Bool → Type 0
AreStill [] now next pending = Unit {0}
AreStill (v ∷ vs) now next [] = Unit {0}
AreStill (v ∷ vs) now next (true ∷ ps) = AreStill vs (drop v.width now) (drop v.width next) ps
AreStill (v ∷ vs) now next (false ∷ ps) = (take v.width next ≡ take v.width now) × AreStill vs (drop v.width now) (drop v.width next) ps

-- buffers fit a design
pub record FitsDesign (d : Design) (s : State) : Type 0 where
  pub now : length s.now ≡ total_width (process_vars d)
  pub before : length s.before ≡ total_width (process_vars d)
  pub next : length s.next ≡ total_width (process_vars d)
  pub pending : length s.pending ≡ length (process_vars d)
  pub still : AreStill (process_vars d) s.now s.next s.pending

-- a delta cycle over flat buffers is the design's delta cycle, in the order of the text
abbrev pub DeltaLaw : Type 0
DeltaLaw = (d : Design) → IsStatic d → (r : Resolved) → IsResolved d r → (s : State) → FitsDesign d s →
    FitsDesign d (delta_of r.processes r.store s) × (state_at d (delta_of r.processes r.store s) ≡ delta_cycle d d.processes (state_at d s))

-- buffers are quiet exactly where the state is for which they stand
abbrev pub QuietLaw : Type 0
QuietLaw = (d : Design) (s : State) → FitsDesign d s → is_quiet_state (state_at d s) ≡ is_quiet s
