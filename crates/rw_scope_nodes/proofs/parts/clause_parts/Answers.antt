-- The nodes of a clause.
use Rattle.rw_scope_nodes.proofs.Variants as variant
use Rattle.rw_scope_nodes.proofs.parts.clause_parts.Goals as goal

pub returns : goal.returns
returns g c = variant.clause c.args.tree.now _ _ _ c.as_slice.ensures c.side_task.ensures c.as_slice-2.ensures
