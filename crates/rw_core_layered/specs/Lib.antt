-- The words that public contracts rest on.
pub mod Pures
pub mod Calls
pub mod Devices
pub mod Layered
pub mod Machines
pub mod Embedding
pub mod Wired
pub mod WellFormed
pub mod Views
