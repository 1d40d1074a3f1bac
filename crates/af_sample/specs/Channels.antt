-- Channels: a device has one or two. A frame has one sample for each, the left one first. A list of samples has its frames one
-- after another: the sample at place j is of frame j / channels, and of channel j % channels.
use Rattle.std.specs.Prelude.{◌≡◌, ℕ, ◌*◌, ◌/◌, ◌==◌, ◌||◌, Bool, ℤ, List, length, IsTrue}

abbrev pub is_channel_count : ℕ → Bool
is_channel_count channels = channels == 1 || channels == 2

abbrev pub IsChannelCount : ℕ → Type 0
IsChannelCount channels = IsTrue (is_channel_count channels)

-- how many frames samples are
abbrev pub frame_count : ℕ → List ℤ → ℕ
frame_count channels samples = length samples / channels

-- the samples are whole frames
abbrev pub AreWholeFrames : ℕ → List ℤ → Type 0
AreWholeFrames channels samples = length samples ≡ channels * frame_count channels samples
