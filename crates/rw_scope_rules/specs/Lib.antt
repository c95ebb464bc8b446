-- The words that public contracts rest on.
pub mod Names
pub mod Nodes
pub mod Bindings
pub mod Scope
pub mod Kinds
pub mod Groups
pub mod Verdict
