-- The programs that are worked.
pub mod Toggle
