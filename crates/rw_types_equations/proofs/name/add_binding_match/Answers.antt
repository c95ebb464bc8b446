-- By what the binding is.
use Rattle.std.proofs.Common.{ap, Some}
use Rattle.rw_types_rules.specs.Schemes.{scheme_at}
use Rattle.rw_types_equations.specs.Seen.{seen_world}
use Rattle.rw_types_equations.proofs.Adding.{ok_as}
use Rattle.rw_types_equations.proofs.Kept.{scheme_of}
use Rattle.rw_types_equations.proofs.Names.{match_as, no_match_of}
use Rattle.rw_types_equations.proofs.name.add_binding_match.Goals as goal

pub returns-in-Declared : goal.returns-in-Declared
returns-in-Declared c = ok_as _ _ _ _ _ c.add_match_if.ensures (λ t. match_as _ _ _ _ _ (scheme_of (seen_world c.args.world.now) _ _ _ c.in-Declared.is c.declared_at.ensures))

pub returns-in_ok-scheme-in-Operation : goal.returns-in_ok-scheme-in-Operation
returns-in_ok-scheme-in-Operation c =
    ok_as _ _ _ _ _ c.add_match.ensures (λ t. match_as _ _ _ _ _ (scheme_of (seen_world c.args.world.now) _ _ _ c.in-Operation.is (ap Some c.in_ok-scheme-in-Operation.ensures)))

pub returns-in-Constructor : goal.returns-in-Constructor
returns-in-Constructor c = ok_as _ _ _ _ _ c.add_match_if-in-Constructor.ensures (λ t. match_as _ _ _ _ _ (scheme_of (seen_world c.args.world.now) _ _ _ c.in-Constructor.is c.constructed_at.ensures))

pub returns-in-Local : goal.returns-in-Local
returns-in-Local c = ok_as _ _ _ _ _ c.never.ensures (λ t. no_match_of (scheme_at (seen_world c.args.world.now) (Some c.args.binding)) _ _ _ (ap (λ z. scheme_at (seen_world c.args.world.now) (Some z)) c.in-Local.is))
