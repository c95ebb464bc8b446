-- The words that contracts rest on.
pub mod Given
-- What functions inside promise each other.
pub mod Depth
pub mod Kept
