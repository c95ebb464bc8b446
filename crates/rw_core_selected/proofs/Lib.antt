-- Lemmas about the definitions, which proofs above cite.
pub mod Values
