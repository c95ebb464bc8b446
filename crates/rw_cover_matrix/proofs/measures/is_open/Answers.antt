-- A wildcard more.
use Rattle.rw_cover_matrix.proofs.Plains.{open_more}
use Rattle.rw_cover_matrix.proofs.measures.is_open.Goals as goal

pub loop-pattern-preserved : goal.loop-pattern-preserved
loop-pattern-preserved c = λ rest.
    c.loop-pattern.invariant (open_more c.args.row.now c.loop-pattern.pattern-index c.pattern-item.result c.loop-pattern-test.true c.pattern-item.is c.in-Any.is rest)
