-- The words that contracts of this crate cite beside those of the designs.
pub mod Drivers
pub mod Measures
pub mod Named
pub mod Rules
