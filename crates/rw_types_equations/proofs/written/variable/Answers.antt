-- Found, or looked for later.
use Rattle.std.proofs.Common.{◌∙◌}
use Rattle.rw_types_solving.proofs.Plains.{plain_var}
use Rattle.rw_types_equations.proofs.Same.{variable_here, variable_later}
use Rattle.rw_types_equations.proofs.written.variable.Goals as goal

pub returns-then-is : goal.returns-then-is
returns-then-is c = plain_var c.loop-other.at ∙ variable_here c.args.names.now c.loop-other.other-index c.loop-other.at c.other-item.result c.args.name.now _ _ _ c.loop-other-test.true c.other-item.is c.as_slice.ensures c.is.ensures c.if-is.true c.loop-other.invariant

pub loop-other-preserved : goal.loop-other-preserved
loop-other-preserved c = variable_later c.args.names.now c.loop-other.other-index c.loop-other.at c.other-item.result c.args.name.now _ _ _ c.loop-other-test.true c.other-item.is c.as_slice.ensures c.is.ensures c.if-is.false c.loop-other.invariant
