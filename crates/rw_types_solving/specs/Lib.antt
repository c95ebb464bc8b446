-- What public contracts rest on: types and substitution, sorts, tables of equations, conditions, and the default.
pub mod Types
pub mod Sorts
pub mod Tables
pub mod Conditions
pub mod Closing
-- What functions inside promise each other.
pub mod Inside
