pub mod DeviceLemmas
pub mod DeferredRequestLemmas
pub mod DeferralLemmas
pub mod PlayLemmas
