pub mod Levels
pub mod Numbers
pub mod Adding
pub mod Sharing
pub mod Loops
