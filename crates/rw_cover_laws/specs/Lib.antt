-- The words that public contracts rest on.
pub mod Shapes
pub mod Columns
pub mod Typed
