pub mod FlagLemmas
pub mod WaitLemmas
