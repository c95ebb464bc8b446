-- The words that public contracts rest on.
pub mod Within
-- What functions inside promise each other.
pub mod Steps
pub mod Joined
pub mod Nests
