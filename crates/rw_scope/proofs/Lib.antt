-- Lemmas about the definitions.
pub mod Judging
