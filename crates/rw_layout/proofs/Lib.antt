-- Lemmas: the stack as a list, one turn, the laws.
pub mod Stacks
pub mod Turns
pub mod Marks
pub mod Balance
pub mod Explicit
