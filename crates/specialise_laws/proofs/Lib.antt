pub mod Same
pub mod Listing
pub mod Seeing
pub mod Limiting
