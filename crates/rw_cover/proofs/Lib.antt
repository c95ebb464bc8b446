-- Lemmas about places, groups, their lists and values.
mod Places
mod Groups
mod LeftOver
mod Whole
mod Answer
mod Found
mod Forms
-- Lemmas about the definitions.
pub mod RowForms
