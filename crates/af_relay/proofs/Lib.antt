pub mod RelayPartLemmas
pub mod RelayEndLemmas
pub mod TimeWordLemmas
pub mod RelayedLemmas
