-- The words that public contracts rest on.
pub mod Values
pub mod Bits
pub mod Options
pub mod Eventually
pub mod Systems
pub mod Traces
-- Laws of these words, which proofs above cite.
pub mod TagWidths
