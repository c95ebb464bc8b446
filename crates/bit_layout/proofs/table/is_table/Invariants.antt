use Rattle.std.proofs.Common.{ℕ, ◌<◌}
use Rattle.rw_core.specs.Bits.{constructors_of}
use Rattle.bit_layout.specs.Tables.{IsDataType}
use Rattle.bit_layout.proofs.table.is_table.Given as goal

abbrev pub invariant-loop-number : goal.invariant-loop-number
invariant-loop-number l = (number : ℕ) → number < l.number → IsDataType number (constructors_of l.table.types number)
