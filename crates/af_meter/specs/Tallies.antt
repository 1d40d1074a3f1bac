-- What is kept of samples while they come: as much as their level needs.
use Rattle.std.specs.Prelude.{◌≡◌, ◌≤◌, ℕ, ◌*◌, ◌^◌, ℤ, List, length}
use Rattle.af_meter.specs.declared.interval.Tallies.{Tallies}
use Rattle.af_meter.specs.declared.level.Tally.{Tally}
use Rattle.af_meter.specs.Levels.{channel_in, peak_of, squares_of}

-- this is known of these samples
pub record IsTally (tally : Tally) (samples : List ℤ) : Type 0 where
  pub peak : tally.peak ≡ peak_of samples
  pub squares : tally.squares ≡ squares_of samples
  pub few : tally.squares ≤ length samples * 2 ^ 32

-- and this of these blocks, whose channels have so many samples
pub record AreTallied (channels : ℕ) (tallies : Tallies) (blocks : List (List ℕ)) (count : ℕ) : Type 0 where
  pub first : IsTally tallies.first (channel_in channels 0 blocks)
  pub first_count : length (channel_in channels 0 blocks) ≡ count
  pub second : channels ≡ 2 → IsTally tallies.second (channel_in channels 1 blocks)
  pub second_count : length (channel_in channels 1 blocks) ≡ count
  pub second_few : tallies.second.squares ≤ count * 2 ^ 32
