-- Lemmas about heads and arguments.
mod Heads
