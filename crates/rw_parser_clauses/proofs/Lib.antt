-- Turns of loops, and levels.
pub mod Links
pub mod Beneath
-- Trees that are cut off where there is no room, and the whole trees.
pub mod Runs
pub mod Small
pub mod Counts
pub mod SmallExpressions
pub mod SmallClauses
pub mod Whole
pub mod Closing
pub mod CutOff
pub mod Rooms
pub mod Readers
