pub mod Clients
pub mod Replicas
pub mod Laws
