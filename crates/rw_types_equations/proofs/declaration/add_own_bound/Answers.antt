-- By whether it is bound.
use Rattle.std.proofs.Common.{ap, sym}
use Rattle.rw_types_rules.specs.Schemes.{scheme_at}
use Rattle.rw_types_equations.specs.Seen.{seen_world}
use Rattle.rw_types_equations.proofs.Adding.{adds_as}
use Rattle.rw_types_equations.proofs.Own.{own_as, no_own_of}
use Rattle.rw_types_equations.proofs.declaration.add_own_bound.Goals as goal

pub returns-in_ok-add_own_binding-in-Some : goal.returns-in_ok-add_own_binding-in-Some
returns-in_ok-add_own_binding-in-Some c = adds_as _ _ _ _ c.in_ok-add_own_binding-in-Some.ensures (λ t. own_as _ _ _ (ap (scheme_at (seen_world c.args.world.now)) (sym c.in-Some.is)))

pub returns-in_ok-never-in-None : goal.returns-in_ok-never-in-None
returns-in_ok-never-in-None c = adds_as _ _ _ _ c.in_ok-never-in-None.ensures (λ t. no_own_of (scheme_at (seen_world c.args.world.now) c.args.at.node.bound) _ (ap (scheme_at (seen_world c.args.world.now)) c.in-None.is))
