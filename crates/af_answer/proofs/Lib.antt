pub mod WorkLemmas
pub mod AnswerPartLemmas
pub mod AnswerStepLemmas
pub mod CallLemmas
pub mod KeptActLemmas
pub mod MachineLemmas
pub mod RunLemmas
