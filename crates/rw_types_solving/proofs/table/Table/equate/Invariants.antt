-- What the rounds keep, and why they end: each gives one more variable its equation.
use Rattle.rw_types_solving.specs.Types.{plain}
use Rattle.rw_types_solving.specs.Tables.{equations}
use Rattle.rw_types_solving.specs.Inside.{opens}
use Rattle.rw_types_solving.proofs.Rounds.{Going}
use Rattle.rw_types_solving.proofs.table.Table.equate.Given as goal

abbrev pub invariant-rounds : goal.invariant-rounds
invariant-rounds l = Going (equations l.fn.self) (plain l.a) (plain l.b) (equations l.self-inside.entries)

abbrev pub decreases-rounds : goal.decreases-rounds
decreases-rounds l = opens (equations l.self-inside.entries)
