use Rattle.std.proofs.Common.{◌≡◌, ◌≤◌, ◌<◌, ◌+◌, ℕ, length, vec_len, vec_capacity, false}
use Rattle.vh_tree.specs.Bits.{Bits}
use Rattle.vhdl_cycle_flat.specs.Delta.{room_ran}
use Rattle.vhdl_cycle_flat.specs.Cycles.{State, cycles_of, is_quiet}
use Rattle.vhdl_cycle_flat.proofs.cycles.settle.Given as goal

abbrev pub invariant-loop-count : goal.invariant-loop-count
invariant-loop-count l =
    let n = length l.store in
    let first : State = record { now = l.fn.now; before = l.fn.before; next = l.fn.next; pending = l.fn.pending; starting = l.fn.starting } in
    let s : State = record { now = l.now; before = l.before; next = l.next; pending = l.pending; starting = l.starting } in
    record {
      before_fits : length l.before ≡ length l.now;
      next_fits : length l.next ≡ length l.now;
      reached : s ≡ cycles_of l.processes n l.count first;
      not_before : (j : ℕ) → j < l.count → is_quiet (cycles_of l.processes n j first) ≡ false;
      same : l.out.items ≡ l.fn.out.items;
      capacity : vec_capacity l.out ≡ vec_capacity l.fn.out;
      room : (frame : Bits) → vec_len l.out + room_ran l.processes n frame ≤ vec_capacity l.out;
    }
