-- The plain form of a node, and what the walk promises inside.
pub mod Plain
