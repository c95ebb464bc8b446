-- The proof that the toggle is guarded.
pub mod Guarding
pub mod Flattening
pub mod Weighing
pub mod Refusing
