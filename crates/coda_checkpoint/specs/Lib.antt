pub mod Truncating
pub mod Laws
