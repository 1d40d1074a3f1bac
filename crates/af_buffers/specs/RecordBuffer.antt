-- What a device has captured recently: the frames up to its time, a horizon's worth of them.
use Rattle.std.specs.Prelude.{◌≡◌, ℕ, ◌+◌, ◌-◌, ◌*◌, ◌/◌, ◌%◌, ◌^◌, ◌<◌, ◌≤◌, ◌&&◌, nat_le, nat_lt, if◌then◌else◌, List, ◌++◌, length, map, drop, ℤ, pos, slice_index_or}
use Rattle.std.specs.List.{range_with_len}
use Rattle.af_time.specs.DeviceTime.{unwrap}
use Rattle.af_sample.specs.Channels.{IsChannelCount, frame_count}
use Rattle.af_sample.specs.Window.{window}
use Rattle.af_ring.specs.Cells.{cell}
use Rattle.af_buffers.specs.Horizons.{IsHorizon, IsRoomFor, whole_time}

-- a buffer: the word of its time, its channels, its horizon in frames, the samples of its last frames, and the cells of its ring
pub record RecordWindow : Type 0 where
  pub time : ℕ
  pub channels : ℕ
  pub horizon : ℕ
  pub last : List ℤ
  pub ring : List ℤ

-- samples are appended to the last ones, as many of the oldest are given up, and time goes on by the number of their frames
pub record Captures (old new : RecordWindow) (samples : List ℤ) : Type 0 where
  pub time : new.time ≡ (old.time + frame_count old.channels samples) % 2 ^ 32
  pub channels : new.channels ≡ old.channels
  pub horizon : new.horizon ≡ old.horizon
  pub last : new.last ≡ drop (length samples) (old.last ++ samples)

-- how many frames from a word on are before a buffer's time
abbrev pub frames_before : RecordWindow → ℕ → ℕ
frames_before b start = whole_time b.time - unwrap (whole_time b.time) start

-- how long it takes until n frames from a word on are before a buffer's time
abbrev pub frames_until_past : RecordWindow → ℕ → ℕ → ℕ
frames_until_past b start n = unwrap (whole_time b.time) start + n - whole_time b.time

-- the sample of a channel at a whole time: one of the last ones, and silence before them and from now on
abbrev pub sample_at : RecordWindow → ℕ → ℕ → ℤ
sample_at b t channel =
    if nat_le (whole_time b.time) (t + b.horizon) && nat_lt t (whole_time b.time)
    then slice_index_or b.last (b.channels * (t + b.horizon - whole_time b.time) + channel) (pos 0) else pos 0

-- the samples of n frames from a word on
abbrev pub samples_from : RecordWindow → ℕ → ℕ → List ℤ
samples_from b start n =
    map (λ j. sample_at b (unwrap (whole_time b.time) start + j / b.channels) (j % b.channels))
    (range_with_len 0 (b.channels * n))

-- the place of a buffer's first sample, as cells are numbered
abbrev pub first_place : RecordWindow → ℕ
first_place b = b.channels * (whole_time b.time - b.horizon)

-- a ring that has each last sample in its cell, that of channel c of a frame at time t at channels * t + c
pub record HoldsLast (b : RecordWindow) : Type 0 where
  pub size : length b.last ≡ b.channels * b.horizon
  pub room : IsRoomFor (length b.last) (length b.ring)
  pub last : (j : ℕ) → j < length b.last → cell b.ring (first_place b + j) ≡ slice_index_or b.last j (pos 0)

-- A buffer keeps what was recorded in so many channels: its samples are the last horizon of all that was captured since a begin.
pub record Keeps (b : RecordWindow) (number : ℕ) (captured : List ℤ) (begin now : ℕ) : Type 0 where
  pub late : 2 ^ 32 ≤ begin
  pub begun : begin ≤ now
  pub all : length captured ≡ number * (now - begin)
  pub time : b.time ≡ now % 2 ^ 32
  pub count : IsChannelCount number
  pub channels : b.channels ≡ number
  pub short : b.horizon ≤ 2 ^ 32
  pub last : b.last ≡ window number captured begin now b.horizon (now - b.horizon) b.horizon

-- the cells of a ring as a buffer: those of the n frames before its time are its last samples
abbrev pub last_of : List ℤ → ℕ → ℕ → ℕ → RecordWindow
last_of cells time channels n = record {
  time = time;
  channels = channels;
  horizon = n;
  last = map (λ j. cell cells (channels * (whole_time time - n) + j)) (range_with_len 0 (channels * n));
  ring = cells;
}

-- a ring with room for the cells of a horizon
pub record IsRoomOf (cells : List ℤ) (channels n : ℕ) : Type 0 where
  pub count : IsChannelCount channels
  pub horizon : IsHorizon n
  pub room : IsRoomFor (channels * n) (length cells)
