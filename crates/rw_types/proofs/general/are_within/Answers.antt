-- One type more.
use Rattle.std.proofs.Common.{arith}
use Rattle.rw_types.proofs.Within.{within_next}
use Rattle.rw_types.proofs.general.are_within.Goals as goal

pub loop-term-preserved : goal.loop-term-preserved
loop-term-preserved c = within_next c.args.numbers c.args.types.now c.loop-term.term-index c.term-item.result c.loop-term-test.true c.term-item.is (omega arith) c.loop-term.invariant
