-- What public contracts rest on.
pub mod Contexts
-- What functions inside promise each other too.
pub mod Spine
