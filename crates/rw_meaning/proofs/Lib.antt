-- Lemmas about the definitions.
pub mod Grows
pub mod Steps
pub mod Traces
pub mod Lasting
pub mod Lengths
pub mod Applying
pub mod Acting
pub mod Tried
