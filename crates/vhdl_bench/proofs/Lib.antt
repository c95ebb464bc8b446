mod Benching
mod Clocking
mod Deciding
mod Inputs
