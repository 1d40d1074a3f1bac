-- Headers as they are written.
use Rattle.std.specs.Prelude.{◌<◌, ◌+◌, ◌*◌, ◌%◌, ◌^◌, ℕ, IsTrue, Bool, true, false, nat_lt, if◌then◌else◌, Option, Some, None, List, ◌++◌, codes}
use Rattle.std.specs.Int.{w16, w32, to_be_bytes, to_le_bytes}
use Rattle.af_sound.specs.declared.head.SoundForm.{SoundForm}
use Rattle.af_sound.specs.declared.head.SoundForm.TheVariants.{Au, Wave}
use Rattle.af_sound.specs.declared.head.Coding.{Coding}
use Rattle.af_sound.specs.declared.head.Coding.TheVariants.{Mu255, Alaw, Lin16Big, Lin16Little, U8}
use Rattle.af_sound.specs.declared.head.SoundHead.{SoundHead}
use Rattle.af_sound.specs.Fields.{has_shape, unknown_length}

-- the codings for which a header of a form is written
abbrev pub is_written : SoundForm → Coding → Bool
is_written form Mu255 = true
is_written form Alaw = true
is_written Au Lin16Big = true
is_written Wave Lin16Big = false
is_written Au Lin16Little = false
is_written Wave Lin16Little = true
is_written form U8 = false

-- a length that differs from the number for one that is not known
abbrev pub IsStatable : Option ℕ → Type 0
IsStatable (Some length) = length < unknown_length
IsStatable None = Unit {0}

-- a header that can be written in a form
pub record IsWritableHead (form : SoundForm) (head : SoundHead) : Type 0 where
  pub shape : IsTrue (has_shape head.channels)
  pub length : IsStatable head.length
  pub coding : IsTrue (is_written form head.coding)

-- how many bytes a written header has
abbrev pub head_size : SoundForm → ℕ
head_size Au = 24
head_size Wave = 44

-- the number that states a length
abbrev pub size_of : Option ℕ → ℕ
size_of (Some length) = length
size_of None = unknown_length

-- the number of a coding in an .au file, if it is written in one
abbrev pub encoding_of : Coding → ℕ
encoding_of Mu255 = 1
encoding_of Alaw = 27
encoding_of Lin16Big = 3
encoding_of Lin16Little = 3
encoding_of U8 = 3

-- the tag of a coding in a WAVE file, if it is written in one
abbrev pub tag_of : Coding → ℕ
tag_of Mu255 = 7
tag_of Alaw = 6
tag_of Lin16Big = 1
tag_of Lin16Little = 1
tag_of U8 = 1

-- the bytes of a sample in a file
abbrev pub sample_size : Coding → ℕ
sample_size Mu255 = 1
sample_size Alaw = 1
sample_size Lin16Big = 2
sample_size Lin16Little = 2
sample_size U8 = 1

-- a length made even
abbrev pub even_length : ℕ → ℕ
even_length length = length + length % 2

-- what the size of `RIFF` counts: all bytes after it, which are 36 bytes of the header, the sound and its pad byte. It is not
-- known if the length is not, or if it does not fit
abbrev pub riff_size : Option ℕ → ℕ
riff_size (Some length) = if nat_lt (36 + even_length length) (2 ^ 32) then 36 + even_length length else unknown_length
riff_size None = unknown_length

-- the bytes of a frame
abbrev pub frame_size : SoundHead → ℕ
frame_size head = head.channels * sample_size head.coding

abbrev pub big_bytes : ℕ → List ℕ
big_bytes number = to_be_bytes w32 number

abbrev pub little_bytes : ℕ → List ℕ
little_bytes number = to_le_bytes w32 number

abbrev pub little16_bytes : ℕ → List ℕ
little16_bytes number = to_le_bytes w16 number

-- an .au header without an annotation
unfoldable pub au_bytes : SoundHead → List ℕ
au_bytes head =
    codes ".snd" ++ big_bytes 24 ++ big_bytes (size_of head.length) ++ big_bytes (encoding_of head.coding) ++ big_bytes head.rate
    ++ big_bytes head.channels

-- the front of a WAVE header, up to the size of `fmt `
abbrev pub riff_bytes : SoundHead → List ℕ
riff_bytes head = codes "RIFF" ++ little_bytes (riff_size head.length) ++ codes "WAVE" ++ codes "fmt " ++ little_bytes 16

-- a front, and after it the sixteen bytes of `fmt `; the bytes of a second are counted modulo 2^32
abbrev pub with_format : List ℕ → SoundHead → List ℕ
with_format front head =
    front ++ little16_bytes (tag_of head.coding) ++ little16_bytes head.channels ++ little_bytes head.rate
    ++ little_bytes (head.rate * frame_size head % 2 ^ 32) ++ little16_bytes (frame_size head)
    ++ little16_bytes (sample_size head.coding * 8)

-- a WAVE header with the chunk `fmt ` and the front of `data`
unfoldable pub wave_bytes : SoundHead → List ℕ
wave_bytes head = with_format (riff_bytes head) head ++ codes "data" ++ little_bytes (size_of head.length)

-- the header that is written
abbrev pub written_head : SoundForm → SoundHead → List ℕ
written_head Au head = au_bytes head
written_head Wave head = wave_bytes head
