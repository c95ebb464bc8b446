-- Lemmas.
pub mod ByKind
pub mod Closing
pub mod Solving
pub mod Within
pub mod Shared
pub mod Default
pub mod Programs
-- Laws of sorts, which the crates above may cite.
pub mod Sorting
