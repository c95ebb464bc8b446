-- What public contracts rest on: words for types, types as written, schemes of names, typed trees, when their types agree, and typings.
pub mod Words
pub mod Written
pub mod Schemes
pub mod Relabelled
pub mod TypedTrees
pub mod WellTyped
pub mod Typings
