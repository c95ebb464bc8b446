-- How many frames each variant of a tree has.
pub mod Counts
