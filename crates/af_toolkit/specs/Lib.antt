pub mod Parts
pub mod Trace
pub mod Ends
pub mod ToolParts
pub mod Device
pub mod Talk
pub mod Steps
pub mod Lost
