-- The words that contracts rest on.
pub mod Kinds
pub mod Reading
