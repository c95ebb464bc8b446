-- Lemmas.
pub mod Parts
pub mod Locals
pub mod Agreeing
pub mod Substituting
pub mod Known
pub mod Closing
pub mod Carried
pub mod Typings
pub mod Defaults
