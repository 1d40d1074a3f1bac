pub mod UnreadableLemmas
pub mod FieldRoundTrips
pub mod DeviceListLemmas
pub mod RequestRoundTrips
pub mod ReplyRoundTrips
pub mod ReplyMessageLemmas
pub mod SetupReplyLemmas
pub mod BigLemmas
