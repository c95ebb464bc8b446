-- Lemmas on what stands for values, on matching, and on typed patterns.
mod Standing
mod Going
mod Matches
mod Typed
mod Seen
mod Fitting
mod Same
mod Bound
mod Programs
