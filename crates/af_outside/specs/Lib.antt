pub mod TapeState
pub mod Tape
pub mod LifecycleState
pub mod TapeCalls
pub mod TapeLaws
