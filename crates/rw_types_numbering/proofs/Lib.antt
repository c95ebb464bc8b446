-- Lemmas.
pub mod Each
pub mod Arms
pub mod Typed
-- Lemmas.
pub mod Relabelling
pub mod Seen
pub mod Filled
pub mod Filling
pub mod Exact
pub mod Fitting
pub mod Instances
pub mod Own
