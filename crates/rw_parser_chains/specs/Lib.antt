-- What functions inside promise each other, and laws that callers cite.
pub mod Grouping
pub mod Resolving
pub mod Fixities
pub mod Sizes
