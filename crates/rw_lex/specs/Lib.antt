-- The words that public contracts rest on.
pub mod Bytes
pub mod Tokens
-- What functions inside promise each other.
pub mod Scan
