mod Settling
mod Changing
