pub mod Ring
pub mod Answers
pub mod Incoming
pub mod Observed
pub mod Receive
pub mod Calls
