-- Reading from the front of a list of tokens, as functions on lists: what readers promise each other.
pub mod Read
pub mod ReadTypes
pub mod ReadNames
pub mod ReadExpressions
pub mod ReadClauses
pub mod ReadLevels
pub mod ReadDeclarations
pub mod ReadProgram
-- How deep trees are, as readers bound it.
pub mod Frames
pub mod Shallow
