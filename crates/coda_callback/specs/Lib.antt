pub mod Callbacks
pub mod Laws
pub mod Kept
