-- Proofs: which operators stand in whose operands, the nodes of a chain, and its grouping in both directions; then whole trees.
pub mod Strengths
pub mod Nodes
pub mod Found
pub mod Grouped
pub mod Forms
pub mod Sizes
pub mod Induction
pub mod Parts
pub mod Made
pub mod Sound
pub mod Programs
pub mod Entries
pub mod Steps
pub mod Counts
pub mod Turns
pub mod Clauses
pub mod Streams
