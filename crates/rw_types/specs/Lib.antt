-- What public contracts rest on.
pub mod Inferred
-- What functions inside promise each other.
pub mod Inside
-- What functions inside promise each other.
pub mod Testing
