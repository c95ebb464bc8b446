-- Proofs: what one item and one run are, the runs and their frame, and the whole.
pub mod Agree
pub mod Items
pub mod NamedItems
pub mod Spelled
pub mod Turns
pub mod Framed
pub mod Whole
-- Proofs: runs by their number of tokens, joining from the left, and what is kept.
pub mod Joins
pub mod Runs
pub mod Keeping
