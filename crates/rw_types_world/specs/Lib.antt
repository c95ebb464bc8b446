-- What functions inside promise each other.
pub mod Sights
pub mod Parts
pub mod Signatures
pub mod Known
