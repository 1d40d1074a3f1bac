pub mod Ledger
pub mod Fed
pub mod Lost
pub mod Between
pub mod Passing
pub mod Card
