-- What a device plays: the accepted plays that cover a time, one after another, in each of its channels.
--
-- Times are whole device times, natural numbers that begin at the device's start plus 2^32. A time is that of one frame.
use Rattle.std.specs.Prelude.{ℕ, ◌+◌, ◌-◌, ◌*◌, ◌/◌, ◌%◌, Bool, ◌&&◌, nat_le, nat_lt, if◌then◌else◌, ℤ, pos, List, map, slice_index_or}
use Rattle.std.specs.List.{fold, range_with_len}
use Rattle.af_sample.specs.Channels.{frame_count}
use Rattle.af_sample.specs.Mixing.{mixed}

-- an accepted play: its samples from a start on, frame by frame, whether it replaces what was there, and the time of the device
-- when it was accepted
pub record AcceptedPlay : Type 0 where
  pub start : ℕ
  pub samples : List ℤ
  pub preempt : Bool
  pub at : ℕ

-- whether an accepted play covers a time, by the channels of its device: not a time that was past when it was accepted
abbrev pub covers : ℕ → AcceptedPlay → ℕ → Bool
covers channels e t = nat_le e.at t && (nat_le e.start t && nat_lt t (e.start + frame_count channels e.samples))

-- what a sample makes of the sound so far: it replaces the sound, or is mixed with it
abbrev pub sound_with_sample : Bool → ℤ → ℤ → ℤ
sound_with_sample preempt sound x = if preempt then x else mixed sound x

-- the sample of an accepted play for a channel, at a time that it covers
abbrev pub sample_of_entry : ℕ → AcceptedPlay → ℕ → ℕ → ℤ
sample_of_entry channels e t channel = slice_index_or e.samples (channels * (t - e.start) + channel) (pos 0)

-- the sound of a channel at a time, with one more accepted play
abbrev pub with_entry : ℕ → ℕ → ℕ → ℤ → AcceptedPlay → ℤ
with_entry channels t channel sound e =
    if covers channels e t then sound_with_sample e.preempt sound (sample_of_entry channels e t channel) else sound

-- the sound of a channel at a time: the accepted plays that cover the time, laid over silence, in the order of their acceptance
unfoldable pub heard_sample : ℕ → List AcceptedPlay → ℕ → ℕ → ℤ
heard_sample channels accepted t channel = fold (with_entry channels t channel) (pos 0) accepted

-- the samples of the n frames from a time on
abbrev pub heard_from : ℕ → List AcceptedPlay → ℕ → ℕ → List ℤ
heard_from channels accepted from n =
    map (λ j. heard_sample channels accepted (from + j / channels) (j % channels)) (range_with_len 0 (channels * n))
