pub mod Mountings
pub mod Deeds
pub mod Lives
