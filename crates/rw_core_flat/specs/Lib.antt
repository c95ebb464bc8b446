-- The words that public contracts rest on.
pub mod Terms
pub mod Meaning
pub mod Programs
pub mod Views
pub mod WellTyped
