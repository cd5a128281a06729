pub mod Lines
pub mod Shows
pub mod Reported
pub mod Cached
pub mod Tallies
