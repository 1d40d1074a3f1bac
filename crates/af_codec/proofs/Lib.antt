pub mod FedLemmas
pub mod StartLemmas
pub mod EmitLemmas
pub mod RunLemmas
