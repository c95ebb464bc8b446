-- Lemmas on tests and names.
pub mod Comparisons
-- The order of the processes, and settling.
pub mod Commute
pub mod Swaps
pub mod Apart
pub mod Orders
pub mod Settling
-- Widths of values.
pub mod ExprWidth
pub mod Stores
pub mod StmtWidth
pub mod Copies
pub mod FunctionWidth
pub mod DesignWidth
