-- Found, or looked for later.
use Rattle.std.proofs.Common.{sym, ◌∙◌}
use Rattle.rw_types_equations.proofs.Same.{found_here, found_later}
use Rattle.rw_types_equations.proofs.written.found.Goals as goal

pub returns-then-is : goal.returns-then-is
returns-then-is c = sym (found_here c.args.types.now c.loop-data.data-index c.data-item.result c.args.name.now _ c.loop-data-test.true c.data-item.is c.is.ensures c.if-is.true) ∙ c.loop-data.invariant

pub loop-data-preserved : goal.loop-data-preserved
loop-data-preserved c = sym (found_later c.args.types.now c.loop-data.data-index c.data-item.result c.args.name.now _ c.loop-data-test.true c.data-item.is c.is.ensures c.if-is.false) ∙ c.loop-data.invariant
