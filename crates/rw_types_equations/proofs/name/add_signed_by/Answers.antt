-- A local name.
use Rattle.rw_types_equations.proofs.Adding.{adds_as}
use Rattle.rw_types_equations.proofs.Binders.{is_local_signed}
use Rattle.rw_types_equations.proofs.name.add_signed_by.Goals as goal

pub returns-in_ok-add_binder-in-Local : goal.returns-in_ok-add_binder-in-Local
returns-in_ok-add_binder-in-Local c = adds_as _ _ _ _ c.in_ok-add_binder-in-Local.ensures (is_local_signed c.args.locals.now c.args.binding _ _ c.args.at.number c.in-Local.is c.binder.ensures)
