-- Lemmas on what tables hold of a design, rule by rule.
pub mod Behind
pub mod Driven
pub mod Filled
pub mod FromTheLast
pub mod Here
pub mod Later
pub mod Parts
pub mod Statements
pub mod Widened
pub mod Wired
mod Exact
