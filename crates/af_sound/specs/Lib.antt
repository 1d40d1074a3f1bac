pub mod Fields
pub mod Au
pub mod Wave
pub mod Heads
pub mod Written
pub mod Served
pub mod Reading
pub mod Fronts
