-- What the examples are computed by.
pub mod Folds
