use Rattle.std.proofs.Common.{◌≡◌, ◌≤◌, ◌+◌, length, vec_len, vec_capacity, drop}
use Rattle.vhdl_cycle_flat.specs.Delta.{Coming, ran, room_ran}
use Rattle.vhdl_cycle_flat.proofs.delta.run_processes.Given as goal

abbrev pub invariant-loop-process : goal.invariant-loop-process
invariant-loop-process l =
    let rest = drop l.process-index l.processes in
    let n = length l.store in
    let first : Coming = record { next = l.fn.next; pending = l.fn.pending } in
    let s : Coming = record { next = l.next; pending = l.pending } in
    record {
      value : ran rest l.starting l.before l.w n l.now s ≡ ran l.processes l.starting l.before l.w n l.now first;
      same : l.out.items ≡ l.fn.out.items;
      capacity : vec_capacity l.out ≡ vec_capacity l.fn.out;
      room : vec_len l.out + room_ran rest n l.now ≤ vec_capacity l.out;
    }
