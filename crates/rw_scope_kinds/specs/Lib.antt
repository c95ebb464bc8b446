-- What functions inside promise each other.
pub mod Contexts
pub mod Agreeing
pub mod Mentions
