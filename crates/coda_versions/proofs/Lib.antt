pub mod Stale
pub mod Left
pub mod Overwriting
