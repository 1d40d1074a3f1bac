pub mod ExerciseStepLemmas
pub mod JobLemmas
