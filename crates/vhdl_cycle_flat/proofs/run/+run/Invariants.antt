use Rattle.std.proofs.Common.{◌≡◌, ◌≤◌, ◌+◌, ◌++◌, length, vec_len, vec_capacity, map, drop}
use Rattle.vhdl_cycle_flat.specs.Flat.{expr_of, stmt_of, branch_of, test_of, joined, room_joined, in_order, room_in_order, room_tests, first_taken, room_first}
use Rattle.vhdl_cycle_flat.specs.Flat.{all_hold as all_of}
use Rattle.vhdl_cycle_flat.proofs.run.+run.Given as goal

abbrev pub invariant-all_hold-loop-test : goal.invariant-all_hold-loop-test
invariant-all_hold-loop-test l =
    let rest = map test_of (drop l.test-index l.tests) in
    let n = length l.lower in
    record {
      value : all_of rest n l.own ≡ all_of (map test_of l.tests) n l.own;
      same : l.out.items ≡ l.fn.out.items;
      capacity : vec_capacity l.out ≡ vec_capacity l.fn.out;
      room : vec_len l.out + room_tests rest n l.own ≤ vec_capacity l.out;
    }

abbrev pub invariant-append_all-loop-part : goal.invariant-append_all-loop-part
invariant-append_all-loop-part l =
    let rest = map expr_of (drop l.part-index l.parts) in
    let n = length l.store in
    record {
      value : l.out.items ++ joined rest n l.frame ≡ l.fn.out.items ++ joined (map expr_of l.parts) n l.frame;
      capacity : vec_capacity l.out ≡ vec_capacity l.fn.out;
      room : vec_len l.out + room_joined rest n l.frame ≤ vec_capacity l.out;
    }

abbrev pub invariant-run-loop-branch : goal.invariant-run-loop-branch
invariant-run-loop-branch l =
    let rest = map branch_of (drop l.branch-index l.branch-items) in
    let other = map stmt_of l.other in
    let n = length l.lower in
    record {
      value : first_taken rest other n l.own ≡ (stmt_of l.stmt).after n l.fn.own;
      same : l.out.items ≡ l.fn.out.items;
      capacity : vec_capacity l.out ≡ vec_capacity l.fn.out;
      room : vec_len l.out + room_first rest other n l.own ≤ vec_capacity l.out;
    }

abbrev pub invariant-run_all-loop-stmt : goal.invariant-run_all-loop-stmt
invariant-run_all-loop-stmt l =
    let rest = map stmt_of (drop l.stmt-index l.body) in
    let n = length l.lower in
    record {
      value : in_order rest n l.own ≡ in_order (map stmt_of l.body) n l.fn.own;
      same : l.out.items ≡ l.fn.out.items;
      capacity : vec_capacity l.out ≡ vec_capacity l.fn.out;
      room : vec_len l.out + room_in_order rest n l.own ≤ vec_capacity l.out;
    }
