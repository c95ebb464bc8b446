-- What public contracts rest on: types and typed trees in an instance.
pub mod Instances
