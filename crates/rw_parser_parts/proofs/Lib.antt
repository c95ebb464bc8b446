-- Lemmas on the turns of loops.
pub mod Blocks
pub mod Frames
pub mod Joining
pub mod Joins
