-- What public contracts rest on: what a substitution keeps.
pub mod Substitutions
