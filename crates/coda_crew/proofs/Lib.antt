pub mod Lifts
pub mod Giving
pub mod Counts
