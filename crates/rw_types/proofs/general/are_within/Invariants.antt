-- The variables of the types so far are among the numbers.
use Rattle.std.proofs.Common.{ℕ, ◌<◌}
use Rattle.rw_types_solving.specs.Types.{meaning}
use Rattle.rw_types_solving.specs.Tables.{Uses}
use Rattle.rw_types.proofs.general.are_within.Given as goal

abbrev pub invariant-loop-term : goal.invariant-loop-term
invariant-loop-term l = (x : ℕ) → x < l.term-index → Uses l.numbers (meaning l.types x)
