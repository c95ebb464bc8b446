-- The words that public contracts rest on.
pub mod Options
pub mod Results
pub mod Evaluation
pub mod Trace
pub mod Systems
pub mod Outputs
pub mod Steps
