-- The variables of both types are the table's.
use Rattle.std.proofs.Common.{arith, length}
use Rattle.std.proofs.lemmas.Grind.{common_steps}
use Rattle.rw_types_solving.specs.Types.{plain}
use Rattle.rw_types_solving.proofs.Steps.{uses_top}
use Rattle.typing_tests.proofs.solving.join.Goals as goal

pub equate-requires-clause-a_uses : goal.equate-requires-clause-a_uses
equate-requires-clause-a_uses c = uses_top (length c.args.table.now) (plain c.args.a.now) (first_of (omega arith, grind (arith, common_steps)))

pub equate-requires-clause-b_uses : goal.equate-requires-clause-b_uses
equate-requires-clause-b_uses c = uses_top (length c.args.table.now) (plain c.args.b.now) (first_of (omega arith, grind (arith, common_steps)))
