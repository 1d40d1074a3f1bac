pub mod Fields
pub mod Opcodes
pub mod Asked
pub mod Requests
pub mod Answer
pub mod Replies
pub mod big
