-- What the signature is for.
use Rattle.rw_types_equations.proofs.Adding.{adds_as}
use Rattle.rw_types_equations.proofs.Binders.{signed_as}
use Rattle.rw_types_equations.proofs.name.add_signed.Goals as goal

pub returns-in_ok-add_signed_by-in-Some : goal.returns-in_ok-add_signed_by-in-Some
returns-in_ok-add_signed_by-in-Some c = adds_as _ _ _ _ c.in_ok-add_signed_by-in-Some.ensures (signed_as c.args.locals.now c.args.at.node.bound _ c.args.at.number c.in-Some.is)
