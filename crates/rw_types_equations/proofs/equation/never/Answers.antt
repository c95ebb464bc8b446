-- No type is a function from itself.
use Rattle.std.proofs.Common.{ap, ◌∙◌}
use Rattle.rw_types_rules.specs.Words.{function}
use Rattle.rw_types_solving.proofs.Plains.{plain_var}
use Rattle.rw_types_equations.proofs.Adding.{adds_never}
use Rattle.rw_types_equations.proofs.equation.never.Goals as goal

pub returns : goal.returns
returns c = adds_never _ _ _ _ (c.in_ok-inside.ensures ∙ ap (λ z. function z z) (plain_var c.args.variable)) c.in_ok-equate.ensures
