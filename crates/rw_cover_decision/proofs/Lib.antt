-- Lemmas.
pub mod Decided
