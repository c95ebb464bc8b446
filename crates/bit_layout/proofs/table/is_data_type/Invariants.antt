use Rattle.std.proofs.Common.{ℕ, ◌<◌, []}
use Rattle.std.specs.Prelude.{All, slice_index_or}
use Rattle.bit_layout.proofs.table.is_data_type.Given as goal

abbrev pub invariant-loop-fields : goal.invariant-loop-fields
invariant-loop-fields l = (tag : ℕ) → tag < l.fields-index → All (λ field. field < l.number) (slice_index_or l.constructors tag [])
