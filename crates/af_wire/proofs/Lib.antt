pub mod OrderLemmas
pub mod MessageRoundTrips
pub mod SetupFrontLemmas
pub mod FrameFrontLemmas
pub mod MessageFrontLemmas
pub mod BigLemmas
