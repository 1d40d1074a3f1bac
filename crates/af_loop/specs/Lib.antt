pub mod DelayLine
pub mod Ticks
