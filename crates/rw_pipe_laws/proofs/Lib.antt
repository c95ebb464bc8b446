-- The stages one by one.
mod Instances
mod Flattened
