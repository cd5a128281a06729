pub mod Passed
pub mod Records
