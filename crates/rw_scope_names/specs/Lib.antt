-- What functions inside promise each other.
pub mod Signatures
pub mod Taken
