-- Lemmas: a device of which no typing is right.
pub mod Untypable
