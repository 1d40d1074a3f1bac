pub mod PlanLemmas
pub mod LevelLemmas
pub mod IntervalLemmas
pub mod RowLemmas
pub mod TellLemmas
pub mod ToldLemmas
pub mod RunLemmas
pub mod LineLemmas
