pub mod Lines
pub mod Spans
pub mod Trace
pub mod Timed
pub mod Told
pub mod EventsArguments
pub mod EventsWords
pub mod EventsRun
