pub mod Database
pub mod Laws
pub mod Kept
