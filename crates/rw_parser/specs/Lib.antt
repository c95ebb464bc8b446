-- What the contract of `parse` rests on.
pub mod Frame
-- What functions inside promise each other.
pub mod Clauses
pub mod Kept
pub mod Reading
-- What functions inside promise each other, and callers.
pub mod Runs
pub mod Joined
pub mod Shallow
