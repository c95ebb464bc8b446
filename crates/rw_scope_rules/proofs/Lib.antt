-- Lemmas about the definitions.
pub mod FirstBroken
pub mod Lists
pub mod Basics
