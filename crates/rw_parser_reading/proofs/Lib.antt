-- What it is to read exactly, for lists in general; names and operators are read exactly.
pub mod ReadExact
pub mod ReadNames
-- Readers over readers that agree, agree.
pub mod Alike
pub mod AlikeExpressions
pub mod Agree
-- The frames of each kind of tree.
pub mod FramesOf
