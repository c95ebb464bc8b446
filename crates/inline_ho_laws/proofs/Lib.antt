-- The induction on flattening.
pub mod Rules
pub mod Stands
pub mod Matching
pub mod Heads
pub mod Devices
pub mod Denoted
pub mod Outputs
pub mod Once
pub mod Orders
pub mod Bare
pub mod Forget
pub mod Programs
pub mod OneProgram
