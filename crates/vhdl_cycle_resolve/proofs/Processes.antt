-- Processes, one more at the end.
use Rattle.std.proofs.Common.{◌≡◌, ℕ, List, [], ◌∷◌, ◌++◌, map, max, arith}
use Rattle.vh_tree.specs.Bits.{Bits}
use Rattle.vh_tree.specs.declared.process.Process.{Process as Named}
use Rattle.vhdl_cycle_flat.specs.Delta.{drive_of, room_in_order, room_ran}
use Rattle.vhdl_cycle_flat.specs.Names.{Slots, Frames}
use Rattle.vhdl_cycle_flat.specs.Resolving.{IsProcessOf, AreProcesses}
use Rattle.vhdl_cycle_flat.specs.declared.process.Process.{Process}

pub are_processes_more : (slots : Slots) (frames : Frames) (qs : List Named) (ps : List Process) (q : Named) (p : Process) →
    AreProcesses slots frames qs ps → IsProcessOf slots frames q p → AreProcesses slots frames (qs ++ q ∷ []) (ps ++ p ∷ [])
are_processes_more slots frames [] [] q p are is = (is, tt)
are_processes_more slots frames (x ∷ qs) (y ∷ ps) q p are is = (are.0, are_processes_more slots frames qs ps q p are.1 is)
are_processes_more slots frames [] (y ∷ ps) q p are is = absurd are
are_processes_more slots frames (x ∷ qs) [] q p are is = absurd are

pub room_ran_more : (ps : List Process) (p : Process) (n : ℕ) (now : Bits) → room_ran (ps ++ p ∷ []) n now ≡ max (room_ran ps n now) (room_in_order (map drive_of p.body) n now)
room_ran_more [] p n now = omega arith
room_ran_more (x ∷ ps) p n now = omega (arith, room_ran_more ps p n now)
