use Rattle.std.proofs.Common.{◌≤◌, ℕ, take}
use Rattle.vh_tree.specs.Bits.{Bits}
use Rattle.vhdl_cycle_flat.specs.Delta.{room_ran}
use Rattle.vhdl_cycle_flat.specs.Resolving.{AreProcesses}
use Rattle.vhdl_cycle_resolve.specs.Over.{slots_in, frames_in}
use Rattle.vhdl_cycle_resolve.proofs.process.resolve_processes.Given as goal

abbrev pub invariant-loop-process : goal.invariant-loop-process
invariant-loop-process l = record {
  stand : AreProcesses (slots_in l.slots) (frames_in l.funs) (take l.process-index l.processes) l.out;
  room : (n : ℕ) (now : Bits) → room_ran l.out n now ≤ l.room;
}
