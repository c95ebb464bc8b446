-- The words that public contracts rest on.
pub mod Fields
pub mod Tabled
-- What functions inside promise each other.
pub mod Going
