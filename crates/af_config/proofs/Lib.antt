pub mod ProgramLemmas
pub mod LineByLine
pub mod Utf8Lemmas
pub mod SoundLemmas
pub mod CommandLineLemmas
