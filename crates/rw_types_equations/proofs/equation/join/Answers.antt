-- The type is a variable.
use Rattle.std.proofs.Common.{ap, sym, ◌∙◌}
use Rattle.rw_types_solving.specs.Types.{apply}
use Rattle.rw_types_solving.proofs.Plains.{plain_var}
use Rattle.rw_types_equations.proofs.Adding.{adds_as}
use Rattle.rw_types_equations.proofs.equation.join.Goals as goal

pub returns : goal.returns
returns c = adds_as _ _ _ _ c.in_ok-equate.ensures (λ t. let e = ap (apply t) (plain_var c.args.other) in ((λ h. h ∙ e), (λ h. h ∙ sym e)))
