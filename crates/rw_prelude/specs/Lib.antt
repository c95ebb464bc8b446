-- The words that public contracts rest on.
pub mod PreludeText
-- What functions inside promise each other.
pub mod PreludeTrees
