-- The words that public contracts rest on.
pub mod Standing
pub mod Exact
pub mod Matching
pub mod Rows
