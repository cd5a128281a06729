pub mod Volumes
pub mod Histories
pub mod Replicas
