-- There is a binder or none.
use Rattle.rw_types_equations.proofs.Adding.{adds_as}
use Rattle.rw_types_equations.proofs.Binders.{some_binder, no_binder}
use Rattle.rw_types_equations.proofs.name.add_binder.Goals as goal

pub returns-in_ok-join-in-Some : goal.returns-in_ok-join-in-Some
returns-in_ok-join-in-Some c = adds_as _ _ _ _ c.in_ok-join-in-Some.ensures (some_binder c.args.binder _ c.args.at.number c.in-Some.is)

pub returns-in_ok-never-in-None : goal.returns-in_ok-never-in-None
returns-in_ok-never-in-None c = adds_as _ _ _ _ c.in_ok-never-in-None.ensures (no_binder c.args.binder c.args.at.number c.in-None.is)
