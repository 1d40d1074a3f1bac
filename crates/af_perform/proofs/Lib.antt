pub mod CheckLemmas
pub mod LinkRequestLemmas
pub mod DeviceRequestLemmas
pub mod FrameRequestLemmas
pub mod LeavesLemmas
