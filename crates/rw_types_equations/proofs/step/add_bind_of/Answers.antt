-- Three names, or another number of them.
use Rattle.rw_types_solving.proofs.Plains.{plain_var}
use Rattle.rw_types_equations.proofs.Adding.{adds_as, adds_two}
use Rattle.rw_types_equations.proofs.StepArms.{is_bind_of, no_bind_of, computation_is}
use Rattle.rw_types_equations.proofs.step.add_bind_of.Goals as goal

pub returns-then-names-ne3 : goal.returns-then-names-ne3
returns-then-names-ne3 c = adds_as _ _ _ _ c.in_ok-never.ensures (no_bind_of c.args.names.now c.args.body c.args.bound c.args.block c.if-names-ne3.true)

pub returns : goal.returns
returns c = adds_as _ _ _ _ (adds_two _ _ _ _ _ (adds_two _ _ _ _ _ c.in_ok-equate.ensures c.in_ok-join.ensures) c.in_ok-equate-2.ensures)
    (is_bind_of c.args.names.now c.args.body c.args.bound c.args.block _ _ c.if-names-ne3.false (computation_is _ _ _ _ _ c.in_ok-computation.ensures (plain_var _) (plain_var _)) (computation_is _ _ _ _ _ c.in_ok-computation-2.ensures (plain_var _) (plain_var _)))
