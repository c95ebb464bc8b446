-- Reading as functions on lists, and a law of judging.
pub mod Scan
pub mod Read
pub mod ReadDesign
pub mod Laws
