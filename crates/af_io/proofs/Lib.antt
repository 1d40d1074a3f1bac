pub mod ConsumedLemmas
pub mod AppendedLemmas
pub mod KnownBytesLemmas
pub mod NotesLemmas
