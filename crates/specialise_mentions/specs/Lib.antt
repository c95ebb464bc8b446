-- The words that public contracts rest on.
pub mod Named
pub mod Typed
