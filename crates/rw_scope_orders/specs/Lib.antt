-- The words that public contracts rest on.
pub mod Placing
pub mod Groups
