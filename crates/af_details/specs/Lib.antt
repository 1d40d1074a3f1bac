pub mod AnswerEnds
pub mod Pages
