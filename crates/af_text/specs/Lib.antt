pub mod Lines
pub mod Words
pub mod Sound
pub mod Reading
