pub mod Pass
pub mod RelayParts
pub mod Relayed
pub mod Pair
