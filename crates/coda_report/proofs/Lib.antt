pub mod InOrder
pub mod Parts
pub mod Slashes
pub mod ShownBytes
pub mod ShownLogs
pub mod Turns
