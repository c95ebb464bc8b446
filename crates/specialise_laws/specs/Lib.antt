-- The words that public contracts rest on.
pub mod Looking
