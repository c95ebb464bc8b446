use Rattle.std.proofs.Common.{◌≡◌, ◌≤◌, ℕ, [], map, take, drop}
use Rattle.vh_tree.specs.Bits.{Bits}
use Rattle.vh_tree.specs.Functions.{stmts_of as stmts_mean, branch_of as branch_means}
use Rattle.vhdl_cycle_flat.specs.Delta.{Coming, drive_of, row_of, in_order, room_in_order, room_first}
use Rattle.vhdl_cycle_flat.specs.Names.{process_world_over}
use Rattle.vhdl_cycle_flat.specs.declared.process.World.{World as Asked}
use Rattle.vhdl_cycle_resolve.specs.Over.{slots_in, frames_in, RowsAgree}
use Rattle.vhdl_cycle_resolve.proofs.drive.+resolve.Given as goal

abbrev pub invariant-resolve_rows-loop-branch : goal.invariant-resolve_rows-loop-branch
invariant-resolve_rows-loop-branch l = record {
  agree : (w : Asked) (n : ℕ) (now : Bits) (c : Coming) →
      RowsAgree (process_world_over (slots_in l.slots) (frames_in l.funs) n now w) w n now c (map row_of l.out) (map (branch_means Coming) (take l.branch-index l.branches));
  room : (n : ℕ) (now : Bits) → room_first (map row_of l.out) [] n now ≤ l.room;
  raised : l.fn.room ≤ l.room;
}

abbrev pub invariant-resolve_drives-loop-stmt : goal.invariant-resolve_drives-loop-stmt
invariant-resolve_drives-loop-stmt l = record {
  after : (w : Asked) (n : ℕ) (now : Bits) (c : Coming) →
      stmts_mean Coming (drop l.stmt-index l.body) (process_world_over (slots_in l.slots) (frames_in l.funs) n now w) (in_order (map drive_of l.out) w n now c)
      ≡ stmts_mean Coming l.body (process_world_over (slots_in l.slots) (frames_in l.funs) n now w) c;
  room : (n : ℕ) (now : Bits) → room_in_order (map drive_of l.out) n now ≤ l.room;
  raised : l.fn.room ≤ l.room;
}
