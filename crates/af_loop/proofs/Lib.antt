pub mod TicksLemmas
