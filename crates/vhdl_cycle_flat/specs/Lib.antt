-- What flat bits mean, and what ties them to the design.
pub mod Flat
pub mod Delta
pub mod Cycles
pub mod Names
pub mod Resolving
pub mod Standing
pub mod Agreeing
pub mod Calling
