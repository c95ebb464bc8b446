-- Lemmas on the turns of loops and on trees that are kept.
pub mod Turns
pub mod Kept
pub mod Cut
