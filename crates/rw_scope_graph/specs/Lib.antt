-- The words that public contracts rest on.
pub mod Waiting
pub mod Circles
-- What functions inside promise each other.
pub mod Search
pub mod Meeting
