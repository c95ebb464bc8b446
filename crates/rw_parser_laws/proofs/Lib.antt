-- Reading is exact: types, patterns, expressions and clauses.
pub mod ReadTypes
pub mod ReadPatterns
pub mod ReadExpressions
pub mod ReadChains
pub mod Plain
pub mod ReadSides
pub mod ReadLocals
pub mod ReadStatements
pub mod ReadLevels
-- Items and whole programs.
pub mod ReadData
pub mod ReadImports
pub mod ReadHeads
pub mod ReadSignatures
pub mod ReadItems
pub mod Deeper
pub mod Frames
pub mod Narrow
pub mod ReadRuns
pub mod ReadProgram
-- How many levels are enough, and what is kept where items are too deep.
pub mod Enough
pub mod Deep
pub mod Shallow
