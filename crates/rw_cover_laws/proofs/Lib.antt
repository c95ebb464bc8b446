-- Lemmas about shapes, what a program says of its data types, and its rows.
mod Names
mod Founded
mod Unfolding
mod Shaped
mod Alone
pub mod Stands
pub mod Worlds
pub mod Relabelled
pub mod Agreeing
mod Columns
pub mod Programs
pub mod Typable
