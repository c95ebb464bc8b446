-- No arguments, or some.
use Rattle.rw_types_equations.proofs.Adding.{adds_as, adds_two}
use Rattle.rw_types_equations.proofs.StepArms.{last_at, no_last}
use Rattle.rw_types_equations.proofs.step.add_last.Goals as goal

pub returns-then-at-ne0 : goal.returns-then-at-ne0
returns-then-at-ne0 c = adds_as _ _ _ _ c.in_ok-never.ensures (no_last c.args.at c.args.body c.args.block c.if-at-ne0.true)

pub returns : goal.returns
returns c = adds_as _ _ _ _ (adds_two _ _ _ _ _ c.in_ok-join.ensures c.in_ok-join-2.ensures) (last_at c.args.at c.args.body c.args.block c.if-at-ne0.false)
