pub mod Corrections
pub mod Headers
pub mod Files
pub mod Sinks
pub mod MemFiles
