pub mod CardRuns
pub mod CardMoreRuns
