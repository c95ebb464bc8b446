-- What functions inside promise each other.
pub mod Nodes
pub mod Found
