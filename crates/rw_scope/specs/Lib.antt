-- The words that public contracts rest on.
-- What functions inside promise each other.
pub mod Rules
