-- The words that public contracts rest on.
pub mod Verdict
pub mod Right
