pub mod WholeTimeLemmas
