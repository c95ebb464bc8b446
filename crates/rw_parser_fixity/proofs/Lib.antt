-- Proofs: chains turn by turn, statements turn by turn, and items.
pub mod Chains
pub mod Statements
pub mod Listed
pub mod Answered
