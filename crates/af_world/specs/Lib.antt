pub mod Log
pub mod World
pub mod Outside
pub mod Kinds
pub mod Lifecycle
