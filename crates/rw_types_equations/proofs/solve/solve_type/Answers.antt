-- The variables of both sides are the table's.
use Rattle.std.proofs.Common.{length, arith}
use Rattle.std.proofs.lemmas.Grind.{common_steps}
use Rattle.rw_types_solving.specs.Types.{plain}
use Rattle.rw_types_solving.proofs.Plains.{plain_var}
use Rattle.rw_types_solving.proofs.Steps.{uses_top}
use Rattle.rw_types_equations.proofs.Solving.{uses_plain, ok_narrowed}
use Rattle.rw_types_equations.proofs.solve.solve_type.Goals as goal

pub equate-requires-clause-a_uses : goal.equate-requires-clause-a_uses
equate-requires-clause-a_uses c = uses_plain (length c.args.table.now) c.args.variable _ (plain_var _) (first_of (omega arith, grind (arith, common_steps)))

pub equate-requires-clause-b_uses : goal.equate-requires-clause-b_uses
equate-requires-clause-b_uses c = uses_top (length c.args.table.now) (plain c.args.is.now) (first_of (omega arith, grind (arith, common_steps)))

pub returns-clause-narrowed : goal.returns-clause-narrowed
returns-clause-narrowed c = ok_narrowed _ _ _ _ _ _ (plain_var c.args.variable) c.equate.ensures.narrowed
