pub mod Horizons
pub mod Places
pub mod PlayBuffer
pub mod RecordBuffer
