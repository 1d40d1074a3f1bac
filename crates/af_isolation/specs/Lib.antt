pub mod Without
pub mod Isolation
pub mod Laws
