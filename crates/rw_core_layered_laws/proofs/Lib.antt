-- The law, from terms to systems.
mod By
mod Terms
mod Programs
