-- By whether the node is bound.
use Rattle.rw_types_equations.specs.Seen.{seen_world}
use Rattle.rw_types_equations.proofs.Adding.{adds_as}
use Rattle.rw_types_equations.proofs.Binders.{name_as, no_name}
use Rattle.rw_types_equations.proofs.name.add_name.Goals as goal

pub returns-in_ok-add_named-in-Some : goal.returns-in_ok-add_named-in-Some
returns-in_ok-add_named-in-Some c = adds_as _ _ _ _ c.in_ok-add_named-in-Some.ensures (name_as (seen_world c.args.world.now) c.args.locals.now c.args.at.node.bound _ c.args.at c.in-Some.is)

pub returns-in_ok-never-in-None : goal.returns-in_ok-never-in-None
returns-in_ok-never-in-None c = adds_as _ _ _ _ c.in_ok-never-in-None.ensures (no_name (seen_world c.args.world.now) c.args.locals.now c.args.at.node.bound c.args.at c.in-None.is)
