pub mod HorizonLemmas
pub mod PlaceLemmas
pub mod AcceptedPlayLemmas
pub mod PlayRingLemmas
pub mod PlayBufferLemmas
pub mod RecordRingLemmas
pub mod RecordBufferLemmas
