-- The words that public contracts rest on.
pub mod Views
pub mod Types
pub mod Patterns
pub mod Trees
pub mod Declarations
