-- The words that public contracts rest on.
pub mod Commands
pub mod Numbers
pub mod Printed
pub mod Answers
pub mod Answered
-- What functions inside promise each other.
pub mod Asked
