-- The header that is true to what was written after it.
use Rattle.std.specs.Prelude.{◌+◌, ◌-◌, ◌*◌, ◌/◌, ◌%◌, ◌==◌, ◌&&◌, ℕ, Bool, true, false, not, min, max, nat_lt, if◌then◌else◌, Option, Some, None, List, ◌++◌, take, drop, length, slice_index}
use Rattle.af_sound.specs.declared.head.SoundForm.{SoundForm}
use Rattle.af_sound.specs.declared.head.SoundForm.TheVariants.{Au, Wave}
use Rattle.af_sound.specs.declared.head.SoundHead.{SoundHead}
use Rattle.af_sound.specs.Fields.{unknown_length}
use Rattle.af_sound.specs.Written.{frame_size, little_bytes, written_head}
use Rattle.af_true_header.specs.declared.extent.Extent.{Extent}

-- the bytes of sound among those after a header: whole frames, and not the pad byte
abbrev pub sound_bytes : SoundHead → Extent → ℕ
sound_bytes head extent =
    if extent.padded then extent.bytes - 1 else extent.bytes / max 1 (frame_size head) * max 1 (frame_size head)

-- a length, if a header can state it
abbrev pub statable : ℕ → Option ℕ
statable length = if nat_lt length unknown_length then Some length else None

-- the sound of a WAVE file is odd, and its pad byte was not written yet
abbrev pub lacks_pad : SoundForm → (sound : ℕ) → (padded : Bool) → Bool
lacks_pad Au sound padded = false
lacks_pad Wave sound padded = (sound % 2 == 1) && not padded

-- the header of a WAVE file with another number in the size of `RIFF`
abbrev pub with_riff : ℕ → List ℕ → List ℕ
with_riff size header = take 4 header ++ little_bytes size ++ drop 8 header

-- the header of a sound with so many bytes; where the pad byte is not there yet, `RIFF` does not count it
abbrev pub header_of : SoundForm → SoundHead → (sound : ℕ) → (padded : Bool) → List ℕ
header_of form head sound padded =
    let header = written_head form (record (head) { length = statable sound }) in
    if lacks_pad form sound padded then with_riff (min (36 + sound) unknown_length) header else header

-- the header that is true to what was written after it
unfoldable pub true_header : SoundForm → SoundHead → Extent → List ℕ
true_header form head extent = header_of form head (sound_bytes head extent) extent.padded

-- the bytes of a second of sound, at least one
abbrev pub second_bytes : SoundHead → ℕ
second_bytes head = max 1 (head.rate * frame_size head)

-- a header states no length, or this one
abbrev pub allows : Option ℕ → ℕ → Bool
allows None bytes = true
allows (Some length) bytes = length == bytes

-- A piece is the pad byte of a WAVE file: a zero alone, after an odd number of bytes, and after all of the sound if the header
-- states that.
abbrev pub is_pad : SoundForm → SoundHead → Extent → List ℕ → Bool
is_pad Au head extent piece = false
is_pad Wave head extent piece =
    (frame_size head == 1) && (extent.bytes % 2 == 1) && allows head.length extent.bytes
    && (length piece == 1) && (slice_index piece 0 == 0)
