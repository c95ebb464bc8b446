use Rattle.std.proofs.Common.{◌≡◌, ◌≤◌, ◌+◌, length, vec_len, vec_capacity, map, drop}
use Rattle.vhdl_cycle_flat.specs.Delta.{Coming, drive_of, row_of, in_order, room_in_order, first_taken, room_first}
use Rattle.vhdl_cycle_flat.proofs.delta.+drive.Given as goal

abbrev pub invariant-drive-loop-row : goal.invariant-drive-loop-row
invariant-drive-loop-row l =
    let rest = map row_of (drop l.row-index l.row-items) in
    let other = map drive_of l.other in
    let n = length l.store in
    let first : Coming = record { next = l.fn.next; pending = l.fn.pending } in
    let s : Coming = record { next = l.next; pending = l.pending } in
    record {
      value : first_taken rest other l.w n l.now s ≡ (drive_of l.stmt).after l.w n l.now first;
      same : l.out.items ≡ l.fn.out.items;
      capacity : vec_capacity l.out ≡ vec_capacity l.fn.out;
      room : vec_len l.out + room_first rest other n l.now ≤ vec_capacity l.out;
    }

abbrev pub invariant-drive_all-loop-stmt : goal.invariant-drive_all-loop-stmt
invariant-drive_all-loop-stmt l =
    let rest = map drive_of (drop l.stmt-index l.body) in
    let n = length l.store in
    let first : Coming = record { next = l.fn.next; pending = l.fn.pending } in
    let s : Coming = record { next = l.next; pending = l.pending } in
    record {
      value : in_order rest l.w n l.now s ≡ in_order (map drive_of l.body) l.w n l.now first;
      same : l.out.items ≡ l.fn.out.items;
      capacity : vec_capacity l.out ≡ vec_capacity l.fn.out;
      room : vec_len l.out + room_in_order rest n l.now ≤ vec_capacity l.out;
    }
