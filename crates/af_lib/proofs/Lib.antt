pub mod LinkByteLemmas
pub mod MessageFrontLemmas
pub mod FrameLemmas
pub mod AwaitedMessageLemmas
pub mod ExchangeLemmas
pub mod SuccessLemmas
pub mod EventRingLemmas
pub mod OnlyReading
