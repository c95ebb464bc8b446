-- Laws of types and of tables, which the crates above may cite.
pub mod Plains
pub mod Laws
pub mod Steps
pub mod Entries
pub mod StateMonads
pub mod Keeping
pub mod MostGeneral
pub mod Defaults
-- What the code's proofs rest on.
pub mod Telling
pub mod Resolving
pub mod Rounds
pub mod Turns
