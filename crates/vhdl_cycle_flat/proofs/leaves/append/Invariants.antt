-- What the loop over bits keeps.
use Rattle.std.proofs.Common.{◌≡◌, ◌+◌, ◌++◌, take, vec_len, vec_capacity}
use Rattle.vhdl_cycle_flat.proofs.leaves.append.Given as goal

-- the bits so far stand behind what stood there, in the same room
abbrev pub invariant-loop-bit : goal.invariant-loop-bit
invariant-loop-bit l = record {
  value : l.out.items ≡ l.fn.out.items ++ take l.bit-index l.bits;
  len : vec_len l.out ≡ vec_len l.fn.out + l.bit-index;
  capacity : vec_capacity l.out ≡ vec_capacity l.fn.out;
}
