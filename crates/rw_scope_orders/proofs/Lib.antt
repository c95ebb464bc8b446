-- Lemmas about placing.
pub mod Placing
pub mod Groups
