pub mod Acts
pub mod Handing
pub mod Ledger
pub mod Memory
pub mod Notes
pub mod Sockets
pub mod Waits
