pub mod Notes
pub mod Told
pub mod Laws
pub mod Copies
