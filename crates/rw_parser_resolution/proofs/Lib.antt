-- Lemmas.
pub mod Judged
