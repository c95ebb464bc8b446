-- The words that public contracts rest on.
pub mod Instances
pub mod Tables
pub mod Limits
