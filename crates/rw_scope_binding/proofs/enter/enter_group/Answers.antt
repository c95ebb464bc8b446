-- A local declaration more.
use Rattle.std.proofs.Common.{arith}
use Rattle.rw_scope_binding.proofs.Forms.{group_entered}
use Rattle.rw_scope_binding.proofs.enter.enter_group.Goals as goal

pub loop-local-preserved : goal.loop-local-preserved
loop-local-preserved c =
    group_entered c.args.locals.now c.loop-local.local-index c.local-item.result c.loop-local.scope c.enter_local.new.scope _ (omega arith) c.local-item.is c.in_ok-enter_local.ensures c.loop-local.invariant
