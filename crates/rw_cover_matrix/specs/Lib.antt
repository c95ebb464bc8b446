-- The words that public contracts rest on.
pub mod Values
pub mod Matching
pub mod Coverage
-- What functions inside promise each other.
pub mod Columns
pub mod Owing
