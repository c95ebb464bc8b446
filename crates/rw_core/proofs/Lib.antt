-- Lemmas about the definitions, which proofs above cite.
pub mod Options
pub mod Eventually
pub mod Systems
pub mod Counts
