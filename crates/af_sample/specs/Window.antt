-- What a device has recorded recently, in each of its channels.
--
-- Times are whole device times, natural numbers that begin at the device's start plus 2^32. A time is that of one frame.
use Rattle.std.specs.Prelude.{ℕ, ◌+◌, ◌-◌, ◌*◌, ◌/◌, ◌%◌, ◌&&◌, nat_le, nat_lt, if◌then◌else◌, ℤ, pos, List, map, slice_index_or}
use Rattle.std.specs.List.{range_with_len}

-- the sample of a channel at a time, from all that was captured since a begin, frame by frame: silence before the begin, from now
-- on, and further back than the horizon
unfoldable pub recorded_sample : ℕ → List ℤ → ℕ → ℕ → ℕ → ℕ → ℕ → ℤ
recorded_sample channels captured begin now horizon t channel =
    if nat_le now (t + horizon) && (nat_lt t now && nat_le begin t)
    then slice_index_or captured (channels * (t - begin) + channel) (pos 0) else pos 0

-- the samples of n frames from a start on, each as it is recorded
abbrev pub window : ℕ → List ℤ → ℕ → ℕ → ℕ → ℕ → ℕ → List ℤ
window channels captured begin now horizon start n =
    map (λ j. recorded_sample channels captured begin now horizon (start + j / channels) (j % channels))
    (range_with_len 0 (channels * n))
