-- One equation is added.
use Rattle.rw_types_equations.proofs.Adding.{adds_one}
use Rattle.rw_types_equations.proofs.equation.equate_function.Goals as goal

pub returns : goal.returns
returns c = adds_one _ _ _ c.in_ok-push.ensures.ok
