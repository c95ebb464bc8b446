pub mod Stable
