pub mod Endings
pub mod Kept
pub mod Rulings
pub mod Spelled
pub mod Weights
