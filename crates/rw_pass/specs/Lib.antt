-- The words that public contracts rest on.
pub mod Passes
pub mod Denoting
pub mod Designs
