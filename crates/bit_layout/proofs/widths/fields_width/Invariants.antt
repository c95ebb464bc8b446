use Rattle.std.proofs.Common.{◌≡◌, min, take, slice_index}
use Rattle.std.specs.Prelude.{sum_by}
use Rattle.bit_layout.proofs.widths.fields_width.Given as goal

abbrev pub invariant-loop-field : goal.invariant-loop-field
invariant-loop-field l = l.sum ≡ min l.cap (sum_by (slice_index l.widths) (take l.field-index l.fields))
