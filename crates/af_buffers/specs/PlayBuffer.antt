-- What a device is about to play: the frames from its time on, a horizon's worth of them.
use Rattle.std.specs.Prelude.{◌≡◌, ℕ, ◌+◌, ◌-◌, ◌*◌, ◌/◌, ◌%◌, ◌^◌, ◌<◌, ◌≤◌, Bool, false, List, ◌++◌, length, map, take, drop, replicate, ℤ, pos, slice_index_or}
use Rattle.std.specs.List.{range_with_len, All}
use Rattle.af_time.specs.DeviceTime.{unwrap}
use Rattle.af_sample.specs.Channels.{IsChannelCount, frame_count}
use Rattle.af_sample.specs.Heard.{AcceptedPlay, covers, with_entry, heard_sample, sound_with_sample}
use Rattle.af_ring.specs.Cells.{cell, ChangesRun}
use Rattle.af_buffers.specs.Horizons.{IsHorizon, IsRoomFor, whole_time}

-- a buffer: the word of its time, its channels, its horizon in frames, the samples of its next frames, and the cells of its ring
pub record PlayWindow : Type 0 where
  pub time : ℕ
  pub channels : ℕ
  pub horizon : ℕ
  pub next : List ℤ
  pub ring : List ℤ

-- a play that is accepted at a whole time: it starts at the whole time that its word means then
abbrev pub accepted_at : ℕ → ℕ → List ℤ → Bool → AcceptedPlay
accepted_at now start samples preempt =
    record { start = unwrap now start; samples = samples; preempt = preempt; at = now }

-- the same, accepted at a buffer's time
abbrev pub accepted_by : PlayWindow → ℕ → List ℤ → Bool → AcceptedPlay
accepted_by b start samples preempt = accepted_at (whole_time b.time) start samples preempt

-- how many frames lie from a word to the end of the horizon: those before now count too, and there are none past that end
abbrev pub frames_within : PlayWindow → ℕ → ℕ
frames_within b start = whole_time b.time + b.horizon - unwrap (whole_time b.time) start

-- how long it takes until n frames from a word on end at most a horizon after a buffer's time
abbrev pub frames_beyond : PlayWindow → ℕ → ℕ → ℕ
frames_beyond b start n = unwrap (whole_time b.time) start + n - (whole_time b.time + b.horizon)

-- n frames from a word on end at most a horizon after a buffer's time
abbrev pub EndsWithin : PlayWindow → ℕ → ℕ → Type 0
EndsWithin b start n = unwrap (whole_time b.time) start + n ≤ whole_time b.time + b.horizon

-- the next sample at a place, with one more accepted play
abbrev pub next_with : PlayWindow → AcceptedPlay → ℕ → ℤ
next_with b play j =
    with_entry b.channels (whole_time b.time + j / b.channels) (j % b.channels) (slice_index_or b.next j (pos 0)) play

-- a play is laid over the next samples: each is what one more accepted play makes of it
pub record Plays (old new : PlayWindow) (play : AcceptedPlay) : Type 0 where
  pub time : new.time ≡ old.time
  pub channels : new.channels ≡ old.channels
  pub horizon : new.horizon ≡ old.horizon
  pub size : length new.next ≡ length old.next
  pub each : (j : ℕ) → j < length old.next → slice_index_or new.next j (pos 0) ≡ next_with old play j

-- only cells of times that a play covers are changed, and it covers none before its acceptance
pub record ChangesCovered (old new : PlayWindow) (play : AcceptedPlay) : Type 0 where
  pub size : length new.ring ≡ length old.ring
  pub kept : (j : ℕ) → j < length old.ring → covers old.channels play (whole_time old.time + j / old.channels) ≡ false →
      cell new.ring (old.channels * old.time + j) ≡ cell old.ring (old.channels * old.time + j)

-- the first of the next frames are given out; the rest and as much silence come next, and time goes on by the number of the
-- frames
pub record HandsOut (old new : PlayWindow) (given : List ℤ) : Type 0 where
  pub time : new.time ≡ (old.time + frame_count old.channels given) % 2 ^ 32
  pub channels : new.channels ≡ old.channels
  pub horizon : new.horizon ≡ old.horizon
  pub first : given ≡ take (length given) old.next
  pub next : new.next ≡ drop (length given) old.next ++ replicate (length given) (pos 0)

-- A ring that has each next sample in its cell: that of channel c of a frame at time t at channels * t + c. Every other cell is
-- silent.
pub record HoldsNext (b : PlayWindow) : Type 0 where
  pub size : length b.next ≡ b.channels * b.horizon
  pub room : IsRoomFor (length b.next) (length b.ring)
  pub next : (j : ℕ) → j < length b.next → cell b.ring (b.channels * b.time + j) ≡ slice_index_or b.next j (pos 0)
  pub silent : (j : ℕ) → length b.next ≤ j → j < length b.ring → cell b.ring (b.channels * b.time + j) ≡ pos 0

-- an accepted play covers no time from one on; one without a frame covers none at all
abbrev pub CoversNoneFrom : ℕ → AcceptedPlay → ℕ → Type 0
CoversNoneFrom channels e from = (t : ℕ) → from ≤ t → covers channels e t ≡ false

-- A buffer stands for what is heard from a whole time on in so many channels: its samples are those that the accepted plays make,
-- and none of these covers a time past its horizon.
pub record Hears (b : PlayWindow) (number : ℕ) (accepted : List AcceptedPlay) (now : ℕ) : Type 0 where
  pub late : 2 ^ 32 ≤ now
  pub time : b.time ≡ now % 2 ^ 32
  pub count : IsChannelCount number
  pub channels : b.channels ≡ number
  pub size : length b.next ≡ number * b.horizon
  pub each : (j : ℕ) → slice_index_or b.next j (pos 0) ≡ heard_sample number accepted (now + j / number) (j % number)
  pub within : All (λ e. CoversNoneFrom number e (now + b.horizon)) accepted

-- samples are laid over the cells from a place on: mixed in, or in their place
abbrev pub OverlaysRun : List ℤ → List ℤ → ℕ → List ℤ → Bool → Type 0
OverlaysRun old new t samples preempt =
    ChangesRun old new t (length samples) (λ k x. sound_with_sample preempt x (slice_index_or samples k (pos 0)))

-- the cells of a ring as a buffer: those of the n frames from its time on are its next samples
abbrev pub next_of : List ℤ → ℕ → ℕ → ℕ → PlayWindow
next_of cells time channels n = record {
  time = time;
  channels = channels;
  horizon = n;
  next = map (λ j. cell cells (channels * time + j)) (range_with_len 0 (channels * n));
  ring = cells;
}

-- a ring with room for the cells of the n frames from a time on; all others are silent
pub record IsRingOf (cells : List ℤ) (time channels n : ℕ) : Type 0 where
  pub count : IsChannelCount channels
  pub horizon : IsHorizon n
  pub room : IsRoomFor (channels * n) (length cells)
  pub silent : (j : ℕ) → channels * n ≤ j → j < length cells → cell cells (channels * time + j) ≡ pos 0
