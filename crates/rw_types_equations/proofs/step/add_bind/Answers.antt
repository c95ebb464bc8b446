-- The names are the node's arguments.
use Rattle.std.proofs.Common.{◌∙◌}
use Rattle.rw_types_equations.proofs.Adding.{adds_as, adds_two}
use Rattle.rw_types_equations.proofs.StepArms.{bind_at}
use Rattle.rw_types_equations.proofs.step.add_bind.Goals as goal

pub returns : goal.returns
returns c = adds_as _ _ _ _ (adds_two _ _ _ _ _ c.in_ok-join.ensures c.in_ok-add_bind_of.ensures) (bind_at c.args.at _ c.args.body c.args.bound c.args.block (c.as_slice.ensures ∙ c.in_ok-names.ensures))
