-- The words that public contracts rest on.
pub mod Places
pub mod Rules
pub mod Outside
pub mod Memory
pub mod Edge
pub mod Answers
-- What functions inside promise each other, and laws that callers cite.
pub mod Bytes
pub mod Told
