pub mod Texts
pub mod Checks
pub mod Replay
pub mod Verdicts
pub mod Laws
