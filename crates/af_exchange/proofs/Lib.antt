pub mod ReadingLemmas
pub mod NoteLemmas
pub mod RunLemmas
pub mod HookLemmas
pub mod AccountLemmas
pub mod DialogueLemmas
pub mod AskLemmas
pub mod BeginLemmas
