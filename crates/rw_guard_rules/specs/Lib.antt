-- The words that public contracts rest on.
pub mod Signals
pub mod Rules
pub mod Verdict
