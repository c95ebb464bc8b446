-- The types are variables.
use Rattle.std.proofs.Common.{sym, ◌∙◌}
use Rattle.rw_types_solving.proofs.Plains.{plain_var}
use Rattle.rw_types_equations.proofs.Adding.{adds_as}
use Rattle.rw_types_equations.proofs.Instances.{joined_at}
use Rattle.rw_types_equations.proofs.equation.join_function.Goals as goal

pub returns : goal.returns
returns c = adds_as _ _ _ _ c.in_ok-equate_function.ensures
    (λ t. let e = joined_at t _ c.args.from.now _ c.args.to c.in_ok-variables_of.ensures (plain_var c.args.to) in ((λ h. h ∙ e), (λ h. h ∙ sym e)))
