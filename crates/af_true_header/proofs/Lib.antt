pub mod HoldLemmas
pub mod KeptLemmas
pub mod ReadLemmas
