-- Lemmas.
pub mod Open
pub mod Unifying
