-- One, or another number of them.
use Rattle.rw_types_equations.proofs.Adding.{adds_as}
use Rattle.rw_types_equations.proofs.Binders.{only_one, not_one}
use Rattle.rw_types_equations.proofs.name.add_only.Goals as goal

pub returns-then-parts-ne1 : goal.returns-then-parts-ne1
returns-then-parts-ne1 c = adds_as _ _ _ _ c.in_ok-never.ensures (not_one c.args.parts.now c.args.number c.if-parts-ne1.true)

pub returns : goal.returns
returns c = adds_as _ _ _ _ c.in_ok-join.ensures (only_one c.args.parts.now c.args.number c.if-parts-ne1.false)
