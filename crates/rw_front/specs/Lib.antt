-- The words that public contracts rest on.
pub mod Stages
pub mod Verdict
pub mod Fronts
pub mod PreludeText
