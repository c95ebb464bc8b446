-- Lemmas about the definitions.
pub mod Rows
pub mod Taken
pub mod Deciding
pub mod Smaller
pub mod Plains
pub mod Turned
pub mod Popped
pub mod Owed
