use Rattle.std.proofs.Common.{◌≡◌, ◌+◌}
use Rattle.std.specs.Prelude.{All}
use Rattle.rw_core.specs.Values.{plain}
use Rattle.rw_core.specs.Bits.{encoding}
use Rattle.bit_layout.specs.Encoding.{IsWriting, all_closed, cost_all}
use Rattle.bit_layout.proofs.encoding.encode.Given as goal

abbrev pub invariant-loop-top : goal.invariant-loop-top
invariant-loop-top l = record {
  whole : all_closed l.types l.stack.items l.bits.items ≡ encoding l.types l.ty (plain l.value);
  typed : All (IsWriting l.types (l.ty + 1)) l.stack.items;
}

abbrev pub decreases-loop-top : goal.decreases-loop-top
decreases-loop-top l = cost_all l.types l.stack.items
