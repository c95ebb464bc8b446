-- What functions inside promise each other.
pub mod Named
pub mod Kept
