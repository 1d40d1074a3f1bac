pub mod RingStepLemmas
pub mod RunPartLemmas
