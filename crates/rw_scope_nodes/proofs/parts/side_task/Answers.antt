-- The nodes of guards.
use Rattle.rw_scope_nodes.proofs.Variants as variant
use Rattle.rw_scope_nodes.proofs.parts.side_task.Goals as goal

pub returns-in-Guarded : goal.returns-in-Guarded
returns-in-Guarded g c = variant.guarded_side _ _ _ c.in-Guarded.is c.as_slice.ensures
