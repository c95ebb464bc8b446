-- Lemmas about lines.
mod Cutting
mod Encoded
mod Refused
