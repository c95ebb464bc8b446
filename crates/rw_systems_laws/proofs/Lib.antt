-- Lemmas about systems of annotated trees.
pub mod Annotated
