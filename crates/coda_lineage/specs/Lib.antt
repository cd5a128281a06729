pub mod Deeds
pub mod Updates
pub mod Repairs
pub mod Lineage
