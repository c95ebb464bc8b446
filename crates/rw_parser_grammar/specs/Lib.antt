-- The words that public contracts rest on: what tokens spell.
pub mod Lexemes
pub mod Lists
pub mod Types
pub mod Patterns
pub mod Names
pub mod Expressions
pub mod Clauses
pub mod Declarations
pub mod Grammar
-- The tree of a chain of operators, and how deep a tree may be.
pub mod Chains
pub mod Resolved
pub mod Levels
pub mod Resolution
