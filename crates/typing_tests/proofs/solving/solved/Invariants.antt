-- The table stays one.
use Rattle.rw_types_solving.specs.Tables.{equations, IsTable}
use Rattle.typing_tests.proofs.solving.solved.Given as goal

abbrev pub invariant-loop-pair : goal.invariant-loop-pair
invariant-loop-pair l = IsTable (equations l.table)
