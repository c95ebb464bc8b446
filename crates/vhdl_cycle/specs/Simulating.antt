-- What a simulator stands for: the design that it runs and the state that it is in; and what its calls answer.
use Rattle.std.specs.Prelude.{◌≡◌, ℕ, ◌-◌, ◌^◌, ◌≤◌, min, [], ◌∷◌, false, Option, Some, None, Result, Ok, Err, codes, vec_capacity}
use Rattle.vh_tree.specs.Bits.{Bytes, Bits}
use Rattle.vh_tree.specs.DeltaCycle.{Orders, cycles, is_quiet}
use Rattle.vh_tree.specs.Bench.{set_port}
use Rattle.vh_tree_laws.specs.Laws.{IsFirstQuiet}
use Rattle.vh_tree.specs.StaticRules.{IsStatic, process_vars}
use Rattle.vh_tree.specs.declared.design.Design.{Design}
use Rattle.vh_tree.specs.declared.wire.State.{State}
use Rattle.vh_tree.specs.declared.wire.Settled.{Settled}
use Rattle.vhdl_cycle_flat.specs.Cycles.{State as Flat}
use Rattle.vhdl_cycle_flat.specs.Names.{slots_of}
use Rattle.vhdl_cycle_flat.specs.declared.slot.Slot.{Slot}
use Rattle.vhdl_cycle_flat.specs.Resolving.{IsResolved}
use Rattle.vhdl_cycle_flat.specs.Standing.{FitsDesign, state_at}
use Rattle.rw_base.specs.declared.bit.Bit9.{Bit9}
use Rattle.rw_base.specs.declared.bit.Bit9.TheVariants.{Zero}
use Rattle.vhdl_cycle.specs.declared.unsettled.NotSettled.{NotSettled}
use Rattle.vhdl_cycle.specs.declared.sim.Sim.{Sim}

-- the buffers of a simulator
abbrev pub flat_of : Sim → Flat
flat_of sim = record { now = sim.current.items; before = sim.before.items; next = sim.next.items; pending = sim.pending.items; starting = sim.starting }

-- where the bits of a port stand among those of all ports and signals
pub record StandsAt (d : Design) (x : Bytes) (at : Slot) : Type 0 where
  pub place : slots_of (process_vars d) x ≡ Some at

-- a simulator runs this design
pub record Simulates (d : Design) (sim : Sim) : Type 0 where
  pub static : IsStatic d
  pub resolved : IsResolved d sim.resolved
  pub fits : FitsDesign d (flat_of sim)
  pub inp : StandsAt d (codes "inp") sim.inp
  pub outp : StandsAt d (codes "outp") sim.outp

-- and stands in this state of it
abbrev pub state_of : Design → Sim → State
state_of d sim = state_at d (flat_of sim)

-- the number of the last change that was made; the start is 1, and the count stands still at its last value
abbrev pub change_of : Sim → ℕ
change_of sim = sim.change

-- each buffer has the room that it had: none was given memory
pub record IsSameRoom (old new : Sim) : Type 0 where
  pub current : vec_capacity new.current ≡ vec_capacity old.current
  pub before : vec_capacity new.before ≡ vec_capacity old.before
  pub next : vec_capacity new.next ≡ vec_capacity old.next
  pub pending : vec_capacity new.pending ≡ vec_capacity old.pending
  pub store : vec_capacity new.store ≡ vec_capacity old.store
  pub scratch : vec_capacity new.scratch ≡ vec_capacity old.scratch

-- how many delta cycles a change has at most
unfoldable pub most_cycles : ℕ
most_cycles = 64

-- the last value of a count of changes
unfoldable pub last_change : ℕ
last_change = 2 ^ 32 - 1

-- `rst`, `clk` '0' and `inp` given values from outside
abbrev pub given_with : Bit9 → Bits → State → State
given_with rst input s = set_port (codes "rst") (rst ∷ []) (set_port (codes "clk") (Zero ∷ []) (set_port (codes "inp") input s))

-- the simulator is in the first quiet state, and the answer is how many delta cycles led to it; or there is none in
-- time, and the answer is the number of the change
abbrev pub IsSettled : Option Settled → ℕ → State → Result ℕ NotSettled → Type 0
IsSettled expected change new (Ok count) = expected ≡ Some (record { state = new; count = count })
IsSettled expected change new (Err fault) = (expected ≡ None) × (fault.0 ≡ change)

-- the simulator is in the first quiet state among those after each number of delta cycles, and the answer is this number; or
-- none up to the most is quiet
abbrev pub IsFirstQuietNow : Design → Orders → State → State → Result ℕ NotSettled → Type 0
IsFirstQuietNow d orders s new (Ok count) = IsFirstQuiet d orders most_cycles s (record { state = new; count = count })
IsFirstQuietNow d orders s new (Err fault) = (k : ℕ) → k ≤ most_cycles → is_quiet (cycles d orders k s) ≡ false

-- the simulator is in the state that changes lead to; or one of them isn't quiet in time, and the answer is its number
abbrev pub IsChanged : Result State ℕ → State → Result Unit NotSettled → Type 0
IsChanged (Ok s) new (Ok done) = new ≡ s
IsChanged (Err change) new (Err fault) = fault.0 ≡ min change last_change
IsChanged (Ok s) new (Err fault) = ⊥
IsChanged (Err change) new (Ok done) = ⊥
