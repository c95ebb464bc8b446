-- Lemmas about the definitions.
mod Parts
mod Answering
mod Total
mod Ends
pub mod Outputs
