-- When names are the same, and what entries say of a name.
pub mod Same
pub mod Entries
