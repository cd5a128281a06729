pub mod Clients
pub mod Lines
pub mod Working
pub mod Staling
pub mod Emulating
pub mod Outcomes
