-- How loud samples are: peaks and means.
use Rattle.std.specs.Prelude.{ℕ, zero, suc, ◌+◌, ◌*◌, ◌/◌, ◌==◌, ◌&&◌, nat_le, nat_lt, max, ℤ, unsigned_abs, Bool, true, if◌then◌else◌}
use Rattle.std.specs.Prelude.{List, [], ◌∷◌, length, map, Some, None}
use Rattle.std.specs.List.{flat_map, range_with_len}
use Rattle.std.specs.Option.{option_map_or}
use Rattle.af_sample.specs.declared.sample_type.SampleType.TheVariants.{Lin16}
use Rattle.af_sample.specs.SampleTypes.{frame_bytes}
use Rattle.af_sample.specs.Samples.{decoded, piece}
use Rattle.af_meter.specs.declared.level.Level.{Level}
use Rattle.af_meter.specs.declared.level.Levels.{Levels}

-- the peak of samples: the greatest absolute value
abbrev pub peak_of : List ℤ → ℕ
peak_of [] = 0
peak_of (x ∷ xs) = max (unsigned_abs x) (peak_of xs)

-- the sum of their squares
abbrev pub squares_of : List ℤ → ℕ
squares_of [] = 0
squares_of (x ∷ xs) = unsigned_abs x * unsigned_abs x + squares_of xs

-- the greatest number, up to one, whose square is at most n
abbrev pub if_root : (root n otherwise : ℕ) → ℕ
if_root root n otherwise = if nat_le (root * root) n then root else otherwise

abbrev pub root_up_to : (most n : ℕ) → ℕ
root_up_to zero n = 0
root_up_to (suc m) n = if_root (suc m) n (root_up_to m n)

-- the square root of n, rounded down
unfoldable pub root_of : ℕ → ℕ
root_of n = root_up_to n n

-- how loud samples are: their peak, and the root of their mean square
abbrev pub level_of : List ℤ → Level
level_of samples = record { peak = peak_of samples; mean = root_of (squares_of samples / length samples) }

-- the bytes of a frame: 16-bit samples, one for each channel
abbrev pub frame_size : (channels : ℕ) → ℕ
frame_size channels = frame_bytes Lin16 channels

-- the samples of one channel in a block of frames: one of each frame
unfoldable pub channel_samples : (channels channel : ℕ) → List ℕ → List ℤ
channel_samples channels channel block =
    map (λ i. decoded Lin16 (piece Lin16 block (channels * i + channel))) (range_with_len 0 (length block / frame_size channels))

-- those in several blocks
abbrev pub channel_in : (channels channel : ℕ) → List (List ℕ) → List ℤ
channel_in channels channel blocks = flat_map (channel_samples channels channel) blocks

-- how loud each channel is in these blocks
abbrev pub levels_of : (channels : ℕ) → List (List ℕ) → Levels
levels_of channels blocks = record {
  first = level_of (channel_in channels 0 blocks);
  second = if channels == 2 then Some (level_of (channel_in channels 1 blocks)) else None;
}

-- the peaks of all channels are below a limit
abbrev pub is_below : (limit : ℕ) → Levels → Bool
is_below limit levels =
    nat_lt levels.first.peak limit && option_map_or (λ (second : Level). nat_lt second.peak limit) levels.second true
