use Rattle.std.proofs.Common.{◌≡◌, ◌≤◌, ℕ, [], map, take, drop}
use Rattle.vh_tree.specs.Bits.{Bits}
use Rattle.vh_tree.specs.Functions.{stmts_of as stmts_mean, branch_of as branch_means}
use Rattle.vhdl_cycle_flat.specs.Flat.{stmt_of, branch_of, in_order, room_in_order, room_first}
use Rattle.vhdl_cycle_flat.specs.Names.{function_world_over}
use Rattle.vhdl_cycle_resolve.specs.Over.{slots_in, frames_in, Agree}
use Rattle.vhdl_cycle_resolve.proofs.stmt.+resolve.Given as goal

abbrev pub invariant-resolve_branches-loop-branch : goal.invariant-resolve_branches-loop-branch
invariant-resolve_branches-loop-branch l = record {
  agree : (n : ℕ) (frame : Bits) → Agree (function_world_over (slots_in l.slots) (frames_in l.funs) n) n frame (map branch_of l.out) (map (branch_means Bits) (take l.branch-index l.branches));
  room : (n : ℕ) (frame : Bits) → room_first (map branch_of l.out) [] n frame ≤ l.room;
  raised : l.fn.room ≤ l.room;
}

abbrev pub invariant-resolve_stmts-loop-stmt : goal.invariant-resolve_stmts-loop-stmt
invariant-resolve_stmts-loop-stmt l = record {
  after : (n : ℕ) (frame : Bits) →
      stmts_mean Bits (drop l.stmt-index l.body) (function_world_over (slots_in l.slots) (frames_in l.funs) n) (in_order (map stmt_of l.out) n frame) ≡ stmts_mean Bits l.body (function_world_over (slots_in l.slots) (frames_in l.funs) n) frame;
  room : (n : ℕ) (frame : Bits) → room_in_order (map stmt_of l.out) n frame ≤ l.room;
  raised : l.fn.room ≤ l.room;
}
