-- Lemmas.
pub mod Sights
pub mod Using
pub mod First
pub mod Making
