pub mod FileBytes
pub mod CodecUse
pub mod Rounds
pub mod CardUse
pub mod Backends
pub mod Asked
