-- What public contracts rest on: numbered trees, equations, and schemes as the code has them.
pub mod Numbered
pub mod Equations
pub mod Seen
