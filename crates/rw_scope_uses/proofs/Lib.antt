-- Tables, which the crates above may cite.
pub mod Tables
-- Types by their heads.
pub mod Joining
pub mod Planned
pub mod Walking
pub mod Using
pub mod Contexts
