pub mod Finding
pub mod Repaired
pub mod Laws
pub mod Making
