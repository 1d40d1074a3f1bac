pub mod ParsedWordLemmas
pub mod ToolNameLemmas
pub mod FrameSizeLemmas
pub mod PieceLemmas
