-- Lemmas on the turns of loops, on how many levels are enough, and on trees that are kept. The crates above cite them.
pub mod Turns
pub mod Enough
pub mod Kept
