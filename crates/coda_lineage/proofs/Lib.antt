pub mod Booleans
mod Edits
mod Operations
pub mod Deciding
mod Sparing
pub mod RepairedTrees
pub mod Staying
pub mod Reaching
mod Possible
mod Updating
mod Merges
