-- The words that public contracts rest on.
pub mod Showing
pub mod Steps
