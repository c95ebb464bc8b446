-- The programs that are worked.
pub mod Toggle
pub mod TypedToggle
pub mod Broken
