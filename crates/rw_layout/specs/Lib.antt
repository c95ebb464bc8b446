-- The words that public contracts rest on.
pub mod Layout
pub mod Laws
-- What functions inside promise each other.
pub mod Steps
