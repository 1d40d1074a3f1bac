pub mod LedgerLemmas
pub mod RunsLemmas
pub mod StartLemmas
