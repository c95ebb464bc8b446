-- Facts that are built by hand.
mod Typing
