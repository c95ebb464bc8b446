-- What public contracts rest on: a bound tree with its spans alone.
pub mod Spanned
-- What functions inside promise each other.
pub mod Stack
pub mod Binders
pub mod Own
pub mod Operations
pub mod Numbered
