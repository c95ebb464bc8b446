-- The words that public contracts rest on.
pub mod Shown
-- What functions inside promise each other.
pub mod Heads
