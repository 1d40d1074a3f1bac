pub mod StepLemmas
pub mod SelectLemmas
pub mod DuringLemmas
pub mod SteppingLemmas
pub mod ToldLemmas
pub mod RunLemmas
