-- What is repeated behind names that were seen.
pub mod Behind
-- The variables of patterns and of let groups, in lists.
pub mod Binders
-- Sets of names, in whatever order.
pub mod Sets
-- The rules as a whole.
pub mod Rules
-- The names in written types.
pub mod Written
-- The clauses of local functions.
pub mod Clauses
