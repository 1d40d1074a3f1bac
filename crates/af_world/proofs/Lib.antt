pub mod EqualityTestLemmas
pub mod SilenceLemmas
