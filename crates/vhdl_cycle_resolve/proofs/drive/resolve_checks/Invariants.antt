use Rattle.std.proofs.Common.{◌≡◌, ◌≤◌, ℕ, drop, cond, false}
use Rattle.std.specs.List.{list_all}
use Rattle.vh_tree.specs.Bits.{Bits}
use Rattle.vh_tree.specs.Functions.{test_holds}
use Rattle.vh_tree.specs.declared.stmt.Test.{Test}
use Rattle.vhdl_cycle_flat.specs.Delta.{Coming, all_hold, room_checks}
use Rattle.vhdl_cycle_flat.specs.Names.{process_world_over}
use Rattle.vhdl_cycle_flat.specs.declared.process.World.{World as Asked}
use Rattle.vhdl_cycle_resolve.specs.Over.{slots_in, frames_in}
use Rattle.vhdl_cycle_resolve.proofs.drive.resolve_checks.Given as goal

abbrev pub invariant-loop-test : goal.invariant-loop-test
invariant-loop-test l =
    let p = λ (w : Asked) (n : ℕ) (now : Bits) (c : Coming) (t : Test). test_holds Coming t (process_world_over (slots_in l.slots) (frames_in l.funs) n now w) c in
    record {
      holds : (w : Asked) (n : ℕ) (now : Bits) (c : Coming) → cond (all_hold l.out w n now) (list_all (p w n now c) (drop l.test-index l.tests)) false ≡ list_all (p w n now c) l.tests;
      room : (n : ℕ) (now : Bits) → room_checks l.out n now ≤ l.room;
      raised : l.fn.room ≤ l.room;
    }
