-- Lemmas about the definitions.
mod Lists
mod Cycles
mod Signalling
mod Weighing
mod Typings
