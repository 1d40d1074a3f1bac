pub mod Deferred
pub mod Kept
pub mod SharedState
pub mod Deferrals
pub mod Lending
