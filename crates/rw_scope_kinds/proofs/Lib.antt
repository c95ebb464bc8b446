-- Tables, uses of variables, and types by their heads.
pub mod Basics
pub mod Agree
pub mod Using
pub mod Whole
pub mod Mentioned
pub mod Circles
pub mod Ways
