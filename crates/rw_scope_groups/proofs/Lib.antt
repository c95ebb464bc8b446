-- Lists of tests, and which bindings are never placed.
pub mod Basics
pub mod Placing
pub mod PatternNumbers
