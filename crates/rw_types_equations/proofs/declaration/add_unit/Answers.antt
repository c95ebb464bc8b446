-- One equation.
use Rattle.std.proofs.Common.{ap, ◌∙◌}
use Rattle.rw_types_solving.specs.Types.{app, tys, plains}
use Rattle.rw_types_solving.specs.declared.term.Head.TheVariants as h
use Rattle.rw_types_solving.proofs.Plains.{plain_app}
use Rattle.rw_types_equations.proofs.Adding.{adds_as}
use Rattle.rw_types_equations.proofs.Own.{unit_is}
use Rattle.rw_types_equations.proofs.declaration.add_unit.Goals as goal

pub returns : goal.returns
returns c = adds_as _ _ _ _ c.in_ok-equate.ensures (unit_is c.args.number _ (plain_app h.Tuple _ ∙ ap (λ z. app h.Tuple (tys (plains z))) c.new.ensures))
