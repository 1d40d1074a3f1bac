pub mod LostLemmas
pub mod FedLemmas
pub mod AccountLemmas
pub mod BetweenLemmas
pub mod PassingLemmas
