-- The words that public contracts rest on.
pub mod Device
pub mod Start
pub mod Positions
pub mod Judged
-- What functions inside promise each other.
pub mod Seen
