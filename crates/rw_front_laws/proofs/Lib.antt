-- Lemmas.
pub mod Stages
pub mod Reading
pub mod Judging
