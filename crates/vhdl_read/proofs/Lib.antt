-- Lemmas that several proofs share.
pub mod Runs
pub mod Scanning
pub mod Turns
pub mod Words
pub mod Answering
pub mod Judging
