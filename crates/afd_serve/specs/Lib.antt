pub mod Words
pub mod Serving
pub mod Starting
pub mod Ends
pub mod Rounds
