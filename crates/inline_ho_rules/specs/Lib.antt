-- The words that public contracts rest on.
pub mod Meants
pub mod Flattening
pub mod FlatPrograms
pub mod Orders
pub mod TypedFlattening
pub mod Untyped
pub mod TypedPrograms
pub mod OrderRules
