-- The words that public contracts rest on.
pub mod Closed
