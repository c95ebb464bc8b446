-- The words that public contracts rest on: what a text spells.
pub mod VToken
pub mod Text
pub mod Grammar
pub mod Spelling
pub mod Spellable
pub mod Canonical
-- The same: what a design means.
pub mod Bits
pub mod Functions
pub mod DeltaCycle
pub mod Bench
pub mod StaticRules
pub mod Widths
