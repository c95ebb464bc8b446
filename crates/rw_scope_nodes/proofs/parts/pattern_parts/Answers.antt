-- The nodes of each variant that has a list.
use Rattle.rw_scope_nodes.proofs.Variants as variant
use Rattle.rw_scope_nodes.proofs.parts.pattern_parts.Goals as goal

pub returns-in-Con : goal.returns-in-Con
returns-in-Con g c = variant.constructor_pattern _ _ _ _ _ _ c.in-Con.is c.as_slice.ensures c.one-in-Con.ensures

pub returns-in-Tuple : goal.returns-in-Tuple
returns-in-Tuple g c = variant.tuple_pattern _ _ _ _ _ c.in-Tuple.is c.as_slice-in-Tuple.ensures c.one-in-Tuple.ensures
