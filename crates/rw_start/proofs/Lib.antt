-- Lemmas about types, and about the names in trees.
mod Types
mod Found
mod Placed
mod Answering
mod Counted
