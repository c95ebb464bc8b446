use Rattle.std.proofs.Common.{◌≡◌, ◌≤◌, ◌+◌, length, vec_len, vec_capacity, drop}
use Rattle.vhdl_cycle_flat.specs.Delta.{all_hold, room_checks}
use Rattle.vhdl_cycle_flat.proofs.delta.all_check.Given as goal

abbrev pub invariant-loop-check : goal.invariant-loop-check
invariant-loop-check l =
    let rest = drop l.check-index l.tests in
    let n = length l.store in
    record {
      value : all_hold rest l.w n l.now ≡ all_hold l.tests l.w n l.now;
      same : l.out.items ≡ l.fn.out.items;
      capacity : vec_capacity l.out ≡ vec_capacity l.fn.out;
      room : vec_len l.out + room_checks rest n l.now ≤ vec_capacity l.out;
    }
