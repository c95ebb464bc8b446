use Rattle.std.proofs.Common.{◌+◌, length, ◌↔◌}
use Rattle.std.specs.Prelude.{All}
use Rattle.rw_core.specs.Values.{Val}
use Rattle.rw_core.specs.Bits.{Encodes}
use Rattle.bit_layout.specs.Widths.{cost_open}
use Rattle.bit_layout.specs.Decoding.{Finishes, IsReading, reading_cost}
use Rattle.bit_layout.proofs.decoding.read_value.Given as goal

abbrev pub invariant-loop-field : goal.invariant-loop-field
invariant-loop-field l = record {
  exact : (v : Val) → Encodes l.types l.ty v l.bits ↔ Finishes l.types l.top l.stack.items v;
  top : IsReading l.types (length l.widths) (length l.bits) l.top;
  stack : All (IsReading l.types (length l.widths) (length l.bits)) l.stack.items;
}

abbrev pub decreases-loop-field : goal.decreases-loop-field
decreases-loop-field l = cost_open l.types l.top.fields.now + reading_cost l.types l.stack.items
