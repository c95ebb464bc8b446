-- Lemmas about the definitions, which proofs above cite.
pub mod Ranks
pub mod Worklist
pub mod Verdicts
