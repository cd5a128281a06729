mod Interests
mod Moves
mod Ranges
mod Loops
mod Views
