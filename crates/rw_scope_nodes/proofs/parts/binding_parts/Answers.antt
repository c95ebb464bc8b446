-- The nodes of a local function.
use Rattle.rw_scope_nodes.proofs.Variants as variant
use Rattle.rw_scope_nodes.proofs.parts.binding_parts.Goals as goal

pub returns-in-Fun : goal.returns-in-Fun
returns-in-Fun g c = variant.function _ _ _ _ _ _ c.in-Fun.is c.as_slice.ensures c.one-in-Fun.ensures
