mod Areas
mod Truncations
mod Doubts
