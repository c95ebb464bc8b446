-- The words that public contracts rest on.
pub mod Traces
pub mod TraceValues
pub mod Refused
