-- Lemmas.
pub mod Entries
pub mod Stacks
pub mod Popped
pub mod Listed
pub mod Numbers
pub mod Forms
pub mod Alike
pub mod Filling
pub mod Built
pub mod Whole
pub mod Unchanged
