-- Lemmas: the plain form of each variant, which callers cite.
pub mod Plains
