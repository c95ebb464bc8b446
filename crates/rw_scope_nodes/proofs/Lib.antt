-- The nodes of lists of trees and of each variant of a tree, and what a step of the walk keeps.
mod Variants
mod Steps
