-- what public contracts rest on
pub mod Simulating
-- what functions inside promise each other
pub mod Buffers
