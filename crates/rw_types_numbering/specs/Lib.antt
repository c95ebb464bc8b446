-- What public contracts rest on: numbered trees.
pub mod Numbering
-- What functions inside promise each other: lists of trees, numbered one after the other.
pub mod Each
-- What public contracts rest on: the kinds of a tree's numbers, numbered trees, and which assignments fit the kinds.
pub mod Slots
pub mod Labelled
pub mod Fits
-- What lemmas speak of: the types of a typed tree in a row.
pub mod Rows
