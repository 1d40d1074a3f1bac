pub mod Observed
pub mod Flow
pub mod Memory
pub mod Link
pub mod Dial
pub mod MemDial
pub mod Real
pub mod Notes
