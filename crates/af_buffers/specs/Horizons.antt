-- How much sound a buffer keeps, and the ring that holds it.
use Rattle.std.specs.Prelude.{ℕ, ◌+◌, ◌*◌, ◌^◌, ◌<◌, ◌≤◌, ◌==◌, IsTrue}
use Rattle.std.specs.List.{list_any}
use Rattle.af_sample.specs.Rates.{listed_rates}
use Rattle.af_ring.specs.Cells.{IsSize}

-- a horizon, into the future or into the past: the frames of four seconds at a listed rate
abbrev pub IsHorizon : ℕ → Type 0
IsHorizon frames = IsTrue (list_any (λ listed. frames == listed * 4) listed_rates)

-- the size of the ring that holds n samples: the least power of two that is at least n
pub record IsRoomFor (samples size : ℕ) : Type 0 where
  pub power : IsSize size
  pub enough : samples ≤ size
  pub least : size < samples * 2

-- a whole device time that has a word: the least from 2^32 on, so that times before it are natural numbers too. All that is said
-- of it holds for every other whole time with that word, since only differences of times matter
abbrev pub whole_time : ℕ → ℕ
whole_time word = 2 ^ 32 + word
