-- The nodes of a let statement.
use Rattle.rw_scope_nodes.proofs.Variants as variant
use Rattle.rw_scope_nodes.proofs.parts.statement_parts.Goals as goal

pub returns-in-Let : goal.returns-in-Let
returns-in-Let g c = variant.let_statement _ _ _ _ _ c.in-Let.is c.as_slice.ensures c.one.ensures
