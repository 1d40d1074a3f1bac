pub mod Stands
pub mod Simulates
pub mod Live
