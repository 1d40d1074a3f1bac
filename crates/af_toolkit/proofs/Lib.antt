pub mod PartLemmas
pub mod ToolPartLemmas
pub mod ToolEndLemmas
pub mod StepLemmas
