-- The words that public contracts rest on.
pub mod Clause
-- What functions inside promise each other.
pub mod Inside
pub mod Last
