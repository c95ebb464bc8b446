-- Lemmas: bits written into lists, places of names, what is read and written there, and then cycles and settling.
pub mod Parts
pub mod Places
pub mod Reading
pub mod Moving
pub mod Writing
pub mod Events
pub mod Quiet
pub mod Usable
pub mod Scopes
pub mod Processes
pub mod Cycle
pub mod Settling
pub mod Ports
-- Lemmas: on expressions, on statements, and then on calls.
pub mod Expressions
pub mod Statements
pub mod AgreeingPlaces
pub mod Entering
pub mod Functions
pub mod Frames
