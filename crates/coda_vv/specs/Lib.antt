pub mod Vector
pub mod Laws
