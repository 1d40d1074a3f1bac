pub mod Acts
pub mod Memory
