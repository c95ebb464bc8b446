-- The words that public contracts rest on.
pub mod Trees
pub mod Plans
pub mod Typed
pub mod Views
