pub mod Objects
pub mod Overlaying
pub mod Laws
