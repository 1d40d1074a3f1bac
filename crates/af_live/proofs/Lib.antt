pub mod HeldLinksLemmas
pub mod PollsLemmas
pub mod RoundLemmas
pub mod SharesLemmas
pub mod StreamsLemmas
pub mod WakingLemmas
