-- What functions inside promise each other.
pub mod Widths
pub mod Parts
pub mod Encoding
pub mod Decoding
pub mod Tables
