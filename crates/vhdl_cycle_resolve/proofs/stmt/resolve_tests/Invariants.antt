use Rattle.std.proofs.Common.{◌≡◌, ◌≤◌, ℕ, map, drop, cond, false}
use Rattle.std.specs.List.{list_all}
use Rattle.vh_tree.specs.Bits.{Bits}
use Rattle.vh_tree.specs.Functions.{test_holds}
use Rattle.vh_tree.specs.declared.stmt.Test.{Test}
use Rattle.vhdl_cycle_flat.specs.Flat.{test_of, all_hold, room_tests}
use Rattle.vhdl_cycle_flat.specs.Names.{function_world_over}
use Rattle.vhdl_cycle_resolve.specs.Over.{slots_in, frames_in}
use Rattle.vhdl_cycle_resolve.proofs.stmt.resolve_tests.Given as goal

abbrev pub invariant-loop-test : goal.invariant-loop-test
invariant-loop-test l =
    let p = λ (n : ℕ) (frame : Bits) (t : Test). test_holds Bits t (function_world_over (slots_in l.slots) (frames_in l.funs) n) frame in
    record {
      holds : (n : ℕ) (frame : Bits) → cond (all_hold (map test_of l.out) n frame) (list_all (p n frame) (drop l.test-index l.tests)) false ≡ list_all (p n frame) l.tests;
      room : (n : ℕ) (frame : Bits) → room_tests (map test_of l.out) n frame ≤ l.room;
      raised : l.fn.room ≤ l.room;
    }
