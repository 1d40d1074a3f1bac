pub mod ConsumesLemmas
pub mod BackendLemmas
pub mod RoundLemmas
pub mod TickLemmas
