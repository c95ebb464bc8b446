-- Lemmas on the list that an assignment leaves, and on calls.
pub mod Stored
pub mod Calls
pub mod Late
