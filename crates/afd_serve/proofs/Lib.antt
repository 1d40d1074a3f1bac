pub mod ServeRoundLemmas
pub mod StartLemmas
pub mod ServeEndLemmas
