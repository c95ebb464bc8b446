-- Lemmas on laid out names, frames, calls and processes.
pub mod Driven
pub mod Framing
pub mod Joined
pub mod Laying
pub mod Ordered
pub mod Processes
