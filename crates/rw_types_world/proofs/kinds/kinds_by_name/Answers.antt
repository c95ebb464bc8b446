-- One use more, from the last one on.
use Rattle.rw_types_world.proofs.Using.{one_use_before}
use Rattle.rw_types_world.proofs.kinds.kinds_by_name.Goals as goal

pub loop-done-preserved : goal.loop-done-preserved
loop-done-preserved c =
    one_use_before c.args.uses.now c.loop-done.done c.index-uses-uses.result c.put.new.self c.loop-done.table _ _ _
    c.loop-done-test.true c.index-uses-uses.is c.in_ok-copied.ensures c.kind_of.ensures c.joined-kind.ensures c.in_ok-put.ensures c.loop-done.invariant
