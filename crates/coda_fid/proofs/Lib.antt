pub mod Paths
pub mod Fids
