-- What public contracts rest on: tables of shared nodes, and the types that their numbers are.
pub mod Shared
-- What functions inside promise each other.
pub mod Hashed
pub mod Same
