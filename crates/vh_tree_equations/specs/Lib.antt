-- Lemmas on the folds of `vh_tree`, which proofs above cite.
pub mod Equations
pub mod Induction
