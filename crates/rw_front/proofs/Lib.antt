-- What the checks of this crate cite.
pub mod Exact
pub mod Reading
pub mod Judging
pub mod Worlds
pub mod Whole
pub mod Answered
