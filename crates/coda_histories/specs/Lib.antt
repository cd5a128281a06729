pub mod Forests
pub mod Laws
