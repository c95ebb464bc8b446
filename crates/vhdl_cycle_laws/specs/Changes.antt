-- What a bench does to buffers and reads of them, as what it does to the state for which they stand: the start, a port
-- given a value, settling, and the value of a port.
use Rattle.std.specs.Prelude.{◌≡◌, ℕ, ◌+◌, length, replicate, true, false, Option, Some, None, codes}
use Rattle.rw_base.specs.declared.bit.Bit9.TheVariants.{U}
use Rattle.vh_tree.specs.Bits.{Bytes, Bits}
use Rattle.vh_tree.specs.DeltaCycle.{Orders, AreOrders, seen, seen_at, cycles}
use Rattle.vh_tree.specs.Bench.{set_port, settled, wires_of}
use Rattle.vh_tree.specs.StaticRules.{IsStatic, process_vars}
use Rattle.vh_tree.specs.declared.design.Design.{Design}
use Rattle.vh_tree.specs.declared.wire.Settled.{Settled}
use Rattle.vhdl_cycle_flat.specs.Flat.{part_of, written}
use Rattle.vhdl_cycle_flat.specs.Delta.{raised}
use Rattle.vhdl_cycle_flat.specs.Cycles.{State, cycles_of, IsSettling}
use Rattle.vhdl_cycle_flat.specs.Names.{slots_of, total_width}
use Rattle.vhdl_cycle_flat.specs.Resolving.{IsResolved}
use Rattle.vhdl_cycle_flat.specs.Standing.{FitsDesign, state_at}
use Rattle.vhdl_cycle_flat.specs.declared.slot.Slot.{Slot}
use Rattle.vhdl_cycle_flat.specs.declared.slot.Resolved.{Resolved}

-- buffers before the start: all bits are 'U', and nothing is pending
abbrev pub fresh_at : Design → State
fresh_at d = record {
  now = replicate (total_width (process_vars d)) U;
  before = replicate (total_width (process_vars d)) U;
  next = replicate (total_width (process_vars d)) U;
  pending = replicate (length (process_vars d)) false;
  starting = true;
}

-- they stand for the ports and signals before the start
abbrev pub StartLaw : Type 0
StartLaw = (d : Design) → FitsDesign d (fresh_at d) × (state_at d (fresh_at d) ≡ record { wires = wires_of d; starting = true })

-- the places of the ports: `clk` is the first bit and `rst` the second, then `inp` and `outp`
pub record HasPorts (d : Design) : Type 0 where
  pub clk : slots_of (process_vars d) (codes "clk") ≡ Some (record { number = 0; from = 0; len = 1 })
  pub rst : slots_of (process_vars d) (codes "rst") ≡ Some (record { number = 1; from = 1; len = 1 })
  pub inp : slots_of (process_vars d) (codes "inp") ≡ Some (record { number = 2; from = 2; len = d.inp })
  pub outp : slots_of (process_vars d) (codes "outp") ≡ Some (record { number = 3; from = 2 + d.inp; len = d.outp })

-- a port given a value from outside
abbrev pub given_at : Slot → Bits → State → State
given_at p v s = record s { next = written p.from v s.next; pending = raised p.number s.pending }

-- so it is in the state
abbrev pub GivenLaw : Type 0
GivenLaw = (d : Design) (s : State) → FitsDesign d s → (x : Bytes) (p : Slot) → slots_of (process_vars d) x ≡ Some p → (v : Bits) → length v ≡ p.len →
    FitsDesign d (given_at p v s) × (state_at d (given_at p v s) ≡ set_port x v (state_at d s))

-- the value of a port or signal is its part of the current bits
abbrev pub ReadLaw : Type 0
ReadLaw = (d : Design) (s : State) → FitsDesign d s → (x : Bytes) (p : Slot) → slots_of (process_vars d) x ≡ Some p →
    part_of p.from p.len s.now ≡ seen_at (seen (state_at d s).wires) x

-- any number of delta cycles over buffers are the design's, whatever the orders of its processes
abbrev pub CyclesLaw : Type 0
CyclesLaw = (d : Design) → IsStatic d → (r : Resolved) → IsResolved d r → (s : State) → FitsDesign d s → (orders : Orders) → AreOrders d orders → (k : ℕ) →
    FitsDesign d (cycles_of r.processes r.store k s) × (state_at d (cycles_of r.processes r.store k s) ≡ cycles d orders k (state_at d s))

-- the answer of settling over buffers, as that of settling
abbrev pub settled_at : Design → State → Option ℕ → Option Settled
settled_at d t None = None
settled_at d t (Some count) = Some (record { state = state_at d t; count = count })

-- settling over buffers is settling, whatever the orders
abbrev pub SettlingLaw : Type 0
SettlingLaw = (d : Design) → IsStatic d → (r : Resolved) → IsResolved d r → (s : State) → FitsDesign d s → (orders : Orders) → AreOrders d orders →
    (most : ℕ) (t : State) (answer : Option ℕ) → IsSettling r.processes r.store most s t answer → settled d orders most (state_at d s) ≡ settled_at d t answer
