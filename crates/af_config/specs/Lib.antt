pub mod Stating
pub mod Configuration
pub mod Kept
pub mod Reading
