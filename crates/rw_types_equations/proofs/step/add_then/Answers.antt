-- The names are the node's arguments.
use Rattle.std.proofs.Common.{◌∙◌}
use Rattle.rw_types_equations.proofs.Adding.{adds_as, adds_two}
use Rattle.rw_types_equations.proofs.StepArms.{then_at}
use Rattle.rw_types_equations.proofs.step.add_then.Goals as goal

pub returns : goal.returns
returns c = adds_as _ _ _ _ (adds_two _ _ _ _ _ c.in_ok-join.ensures c.in_ok-add_then_of.ensures) (then_at c.args.at _ c.args.body c.args.block (c.as_slice.ensures ∙ c.in_ok-names.ensures))
