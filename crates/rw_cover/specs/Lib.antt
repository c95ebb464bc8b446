-- The words that public contracts rest on.
pub mod Correct
-- What functions inside promise each other.
pub mod Walk
-- The words that public contracts rest on.
pub mod Rows
pub mod Coverage
