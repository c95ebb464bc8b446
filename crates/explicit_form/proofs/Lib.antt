-- Lemmas that several proofs share.
pub mod Turns
pub mod Budgets
pub mod Exact
pub mod Forms
pub mod Sizes
pub mod Machines
pub mod Wholes
-- Lemmas about names that are new, and about the slots of inputs.
pub mod News
pub mod Slots
pub mod Arms
-- What a source shows is what its machine shows, and so what its design shows.
pub mod Outputs
pub mod Right
