-- Lemmas: tools, runs, block comments, maximal and longest pieces, whole sources, the laws, one turn of the scan.
pub mod Tools
pub mod Runs
pub mod Comments
pub mod Pieces
pub mod Longest
pub mod Sources
pub mod Answering
pub mod Turns
