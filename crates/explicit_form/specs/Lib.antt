-- The words that public contracts rest on.
pub mod Words
pub mod Lists
pub mod Grammar
pub mod Fit
pub mod Explicit
pub mod Outputs
pub mod Right
-- What functions inside promise each other.
pub mod Read
pub mod Judged
