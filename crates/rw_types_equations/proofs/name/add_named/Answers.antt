-- By what the binding is.
use Rattle.rw_types_equations.specs.Seen.{seen_world}
use Rattle.rw_types_equations.proofs.Adding.{adds_as}
use Rattle.rw_types_equations.proofs.Binders.{is_local_name, is_top_name, itself}
use Rattle.rw_types_equations.proofs.name.add_named.Goals as goal

pub returns-in_ok-add_binder-in-Local : goal.returns-in_ok-add_binder-in-Local
returns-in_ok-add_binder-in-Local c = adds_as _ _ _ _ c.in_ok-add_binder-in-Local.ensures (is_local_name (seen_world c.args.world.now) c.args.locals.now c.args.binding _ _ c.args.at c.in-Local.is c.binder.ensures)

pub returns-in_ok-add_binding-in-Declared : goal.returns-in_ok-add_binding-in-Declared
returns-in_ok-add_binding-in-Declared c = adds_as _ _ _ _ c.in_ok-add_binding-in-Declared.ensures (is_top_name (seen_world c.args.world.now) c.args.locals.now c.args.binding _ c.args.at c.in-Declared.is (λ t. itself))

pub returns-in_ok-add_binding-in-Operation : goal.returns-in_ok-add_binding-in-Operation
returns-in_ok-add_binding-in-Operation c = adds_as _ _ _ _ c.in_ok-add_binding-in-Operation.ensures (is_top_name (seen_world c.args.world.now) c.args.locals.now c.args.binding _ c.args.at c.in-Operation.is (λ t. itself))

pub returns-in_ok-add_binding-in-Constructor : goal.returns-in_ok-add_binding-in-Constructor
returns-in_ok-add_binding-in-Constructor c = adds_as _ _ _ _ c.in_ok-add_binding-in-Constructor.ensures (is_top_name (seen_world c.args.world.now) c.args.locals.now c.args.binding _ c.args.at c.in-Constructor.is (λ t. itself))
