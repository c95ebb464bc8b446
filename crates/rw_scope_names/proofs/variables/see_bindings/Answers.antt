-- A binding more.
use Rattle.std.proofs.Common.{arith}
use Rattle.rw_scope_names.proofs.Binders.{binding_seen}
use Rattle.rw_scope_names.proofs.variables.see_bindings.Goals as goal

pub loop-local-preserved : goal.loop-local-preserved
loop-local-preserved c =
    binding_seen c.args.locals.now c.loop-local.local-index c.local-item.result c.loop-local.seen c.see_binding.new.seen c.loop-local.places.items c.see_binding.new.places.items _
    (omega arith) c.local-item.is c.in_ok-see_binding.ensures c.loop-local.invariant
