pub mod Lengths
pub mod Fields
pub mod Found
pub mod ReadTo
mod ByPieces
pub mod Images
pub mod Headings
pub mod Fronts
pub mod Moments
pub mod Crash
mod Appending
pub mod WithSync
mod Making
mod Mounts
mod Ours
