-- One equation.
use Rattle.rw_types_equations.specs.Seen.{seen_scheme}
use Rattle.rw_types_equations.proofs.Adding.{adds_as}
use Rattle.rw_types_equations.proofs.Own.{is_own}
use Rattle.rw_types_equations.proofs.declaration.add_own.Goals as goal

pub returns : goal.returns
returns c = adds_as _ _ _ _ c.in_ok-equate.ensures (is_own (seen_scheme c.args.scheme.now) c.args.number _ c.in_ok-own_type.ensures)
