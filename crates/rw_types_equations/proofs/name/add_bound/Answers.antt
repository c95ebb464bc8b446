-- By whether the node is bound.
use Rattle.std.proofs.Common.{ap, sym}
use Rattle.rw_types_rules.specs.Schemes.{scheme_at}
use Rattle.rw_types_equations.specs.Seen.{seen_world}
use Rattle.rw_types_equations.proofs.Adding.{ok_as}
use Rattle.rw_types_equations.proofs.Names.{instance_as, no_instance_of}
use Rattle.rw_types_equations.proofs.name.add_bound.Goals as goal

pub returns-in-Some : goal.returns-in-Some
returns-in-Some c = ok_as _ _ _ _ _ c.add_binding.ensures (λ t. instance_as _ _ _ _ (ap (scheme_at (seen_world c.args.world.now)) (sym c.in-Some.is)))

pub returns-in-None : goal.returns-in-None
returns-in-None c = ok_as _ _ _ _ _ c.never.ensures (λ t. no_instance_of (scheme_at (seen_world c.args.world.now) c.args.at.node.bound) _ _ (ap (scheme_at (seen_world c.args.world.now)) c.in-None.is))
