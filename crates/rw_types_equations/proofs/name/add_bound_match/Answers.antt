-- By whether the node is bound.
use Rattle.std.proofs.Common.{ap, sym}
use Rattle.rw_types_rules.specs.Schemes.{scheme_at}
use Rattle.rw_types_equations.specs.Seen.{seen_world}
use Rattle.rw_types_equations.proofs.Adding.{ok_as}
use Rattle.rw_types_equations.proofs.Names.{match_as, no_match_of}
use Rattle.rw_types_equations.proofs.name.add_bound_match.Goals as goal

pub returns-in-Some : goal.returns-in-Some
returns-in-Some c = ok_as _ _ _ _ _ c.add_binding_match.ensures (λ t. match_as _ _ _ _ _ (ap (scheme_at (seen_world c.args.world.now)) (sym c.in-Some.is)))

pub returns-in-None : goal.returns-in-None
returns-in-None c = ok_as _ _ _ _ _ c.never.ensures (λ t. no_match_of (scheme_at (seen_world c.args.world.now) c.args.at.node.bound) _ _ _ (ap (scheme_at (seen_world c.args.world.now)) c.in-None.is))
