-- What the functions inside promise each other of the buffers of a simulator.
use Rattle.std.specs.Prelude.{◌≡◌, ℕ, replicate, true, false}
use Rattle.vhdl_cycle_flat.specs.Cycles.{State as Flat}
use Rattle.rw_base.specs.declared.bit.Bit9.TheVariants.{U}
use Rattle.vhdl_cycle.specs.declared.sim.Sim.{Sim}

-- buffers of this many bits and flags before the start: all is 'U', and nothing is pending
abbrev pub fresh_flat : ℕ → ℕ → Flat
fresh_flat bits wires = record { now = replicate bits U; before = replicate bits U; next = replicate bits U; pending = replicate wires false; starting = true }

-- two simulators run the same design with places, whose ports stand in the same places
pub record IsSameMachine (old new : Sim) : Type 0 where
  pub resolved : old.resolved ≡ new.resolved
  pub inp : old.inp ≡ new.inp
  pub outp : old.outp ≡ new.outp
