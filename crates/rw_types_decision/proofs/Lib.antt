-- Lemmas.
pub mod Equational
pub mod Nodes
pub mod Trees
pub mod Sorts
pub mod Deciding
