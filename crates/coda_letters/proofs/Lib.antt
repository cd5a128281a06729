pub mod Spelled
pub mod Waiting
pub mod Calls
