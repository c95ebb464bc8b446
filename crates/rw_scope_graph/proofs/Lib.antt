-- Lists of tests, and what a search knows after each step.
pub mod Passing
pub mod States
pub mod Searching
pub mod Circling
