pub mod LineSplitLemmas
pub mod WordCutLemmas
pub mod LineByLine
