-- By what the binding is.
use Rattle.std.proofs.Common.{ap, Some}
use Rattle.rw_types_rules.specs.Schemes.{scheme_at}
use Rattle.rw_types_equations.specs.Seen.{seen_world}
use Rattle.rw_types_equations.proofs.Adding.{adds_as}
use Rattle.rw_types_equations.proofs.Kept.{scheme_of}
use Rattle.rw_types_equations.proofs.Own.{own_as, no_own_of}
use Rattle.rw_types_equations.proofs.declaration.add_own_binding.Goals as goal

pub returns-in_ok-add_own_if-in-Declared : goal.returns-in_ok-add_own_if-in-Declared
returns-in_ok-add_own_if-in-Declared c = adds_as _ _ _ _ c.in_ok-add_own_if-in-Declared.ensures (λ t. own_as _ _ _ (scheme_of (seen_world c.args.world.now) _ _ _ c.in-Declared.is c.declared_at.ensures))

pub returns-in_ok-add_own-in-Operation : goal.returns-in_ok-add_own-in-Operation
returns-in_ok-add_own-in-Operation c =
    adds_as _ _ _ _ c.in_ok-add_own-in-Operation.ensures (λ t. own_as _ _ _ (scheme_of (seen_world c.args.world.now) _ _ _ c.in-Operation.is (ap Some c.in_ok-scheme-in-Operation.ensures)))

pub returns-in_ok-add_own_if-in-Constructor : goal.returns-in_ok-add_own_if-in-Constructor
returns-in_ok-add_own_if-in-Constructor c = adds_as _ _ _ _ c.in_ok-add_own_if-in-Constructor.ensures (λ t. own_as _ _ _ (scheme_of (seen_world c.args.world.now) _ _ _ c.in-Constructor.is c.constructed_at.ensures))

pub returns-in_ok-never-in-Local : goal.returns-in_ok-never-in-Local
returns-in_ok-never-in-Local c = adds_as _ _ _ _ c.in_ok-never-in-Local.ensures (λ t. no_own_of (scheme_at (seen_world c.args.world.now) (Some c.args.binding)) _ (ap (λ z. scheme_at (seen_world c.args.world.now) (Some z)) c.in-Local.is))
