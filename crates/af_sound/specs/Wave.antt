-- The header of a WAVE file: `RIFF`, a size, `WAVE`, chunks with one `fmt ` among them, and the front of the chunk `data`.
use Rattle.std.specs.Prelude.{◌≡◌, ◌≢◌, ◌<◌, ◌≤◌, ◌%◌, ◌⊎◌, ℕ, IsTrue, false, ◌==◌, ◌&&◌, if◌then◌else◌, Option, Some, None, List, [], ◌∷◌, ◌++◌, length, codes}
use Rattle.af_sound.specs.declared.head.Coding.{Coding}
use Rattle.af_sound.specs.declared.head.Coding.TheVariants.{Mu255, Alaw, Lin16Little, U8}
use Rattle.af_sound.specs.declared.head.SoundHead.{SoundHead}
use Rattle.af_sound.specs.declared.head.SoundFault.{SoundFault}
use Rattle.af_sound.specs.declared.head.SoundFault.TheVariants.{BadMagic, BadHead, BadCoding, BadShape}
use Rattle.af_sound.specs.Fields.{IsLittle, IsLittle16, has_shape, length_of}

-- a chunk: four bytes of name, a size, that many bytes, and one more byte if the size is odd
pub record Chunk : Type 0 where
  pub name : List ℕ
  pub size : List ℕ
  pub body : List ℕ
  pub pad : List ℕ

pub record IsChunk (chunk : Chunk) : Type 0 where
  pub is_name : length chunk.name ≡ 4
  pub is_size : IsLittle (length chunk.body) chunk.size
  pub is_pad : length chunk.pad ≡ length chunk.body % 2

-- the bytes of a chunk, and of chunks one after the other
abbrev pub chunk_bytes : Chunk → List ℕ
chunk_bytes chunk = chunk.name ++ (chunk.size ++ (chunk.body ++ chunk.pad))

abbrev pub chunks_bytes : List Chunk → List ℕ
chunks_bytes [] = []
chunks_bytes (chunk ∷ rest) = chunk_bytes chunk ++ chunks_bytes rest

-- a chunk that a reader skips
pub record IsOther (chunk : Chunk) : Type 0 where
  pub is : IsChunk chunk
  pub no_format : chunk.name ≢ codes "fmt "
  pub no_data : chunk.name ≢ codes "data"

abbrev pub AreOthers : List Chunk → Type 0
AreOthers [] = Unit {0}
AreOthers (chunk ∷ rest) = IsOther chunk × AreOthers rest

-- the coding for a tag and the bits of a sample, if it is read here
abbrev pub wave_coding : ℕ → ℕ → Option Coding
wave_coding tag bits =
    if tag == 1 && bits == 16 then Some Lin16Little
    else if tag == 1 && bits == 8 then Some U8
    else if tag == 6 && bits == 8 then Some Alaw
    else if tag == 7 && bits == 8 then Some Mu255
    else None

-- the sixteen bytes at the front of `fmt `: the tag, the channels, the rate, six bytes that are ignored, and the bits
pub record StatesFormat (tag channels rate bits : ℕ) (bytes : List ℕ) : Type 0 where
  pub tag_field : List ℕ
  pub channels_field : List ℕ
  pub rate_field : List ℕ
  pub ignored : List ℕ
  pub bits_field : List ℕ
  pub is : bytes ≡ tag_field ++ (channels_field ++ (rate_field ++ (ignored ++ bits_field)))
  pub is_tag : IsLittle16 tag tag_field
  pub is_channels : IsLittle16 channels channels_field
  pub is_rate : IsLittle rate rate_field
  pub is_ignored : length ignored ≡ 6
  pub is_bits : IsLittle16 bits bits_field

-- a chunk `fmt ` that states a sound that is read here
pub record IsFormat (coding : Coding) (rate channels : ℕ) (chunk : Chunk) : Type 0 where
  pub is : IsChunk chunk
  pub name : chunk.name ≡ codes "fmt "
  pub front : List ℕ
  pub more : List ℕ
  pub is_body : chunk.body ≡ front ++ more
  pub tag : ℕ
  pub bits : ℕ
  pub states : StatesFormat tag channels rate bits front
  pub is_coding : wave_coding tag bits ≡ Some coding
  pub is_shape : IsTrue (has_shape channels)

-- twelve bytes: `RIFF`, four that are free, and `WAVE`
pub record IsRiff (bytes : List ℕ) : Type 0 where
  pub size : List ℕ
  pub is : bytes ≡ codes "RIFF" ++ (size ++ codes "WAVE")
  pub is_size : length size ≡ 4

-- the first bytes of a file, up to the end of some chunks without a `fmt ` or a `data`
pub record IsBeforeFormat (bytes : List ℕ) : Type 0 where
  pub riff : List ℕ
  pub chunks : List Chunk
  pub is : bytes ≡ riff ++ chunks_bytes chunks
  pub is_riff : IsRiff riff
  pub others : AreOthers chunks

-- the same, with one chunk `fmt ` among the chunks
pub record IsAfterFormat (coding : Coding) (rate channels : ℕ) (bytes : List ℕ) : Type 0 where
  pub before : List ℕ
  pub format : Chunk
  pub after : List Chunk
  pub is : bytes ≡ before ++ (chunk_bytes format ++ chunks_bytes after)
  pub is_before : IsBeforeFormat before
  pub is_format : IsFormat coding rate channels format
  pub others : AreOthers after

-- a header of a WAVE file: exactly one chunk `fmt ` and no `data` among its chunks, and then `data` and a size
pub record IsWaveHead (bytes : List ℕ) (head : SoundHead) : Type 0 where
  pub front : List ℕ
  pub size_field : List ℕ
  pub size : ℕ
  pub is : bytes ≡ front ++ (codes "data" ++ size_field)
  pub is_front : IsAfterFormat head.coding head.rate head.channels front
  pub is_size : IsLittle size size_field
  pub is_length : head.length ≡ length_of size

-- bytes that end with the name `data` and have no `fmt `
pub record HasDataFirst (bytes : List ℕ) : Type 0 where
  pub front : List ℕ
  pub is : bytes ≡ front ++ codes "data"
  pub is_front : IsBeforeFormat front

-- bytes that end with the name of a second `fmt `
pub record HasSecondFormat (bytes : List ℕ) : Type 0 where
  pub front : List ℕ
  pub coding : Coding
  pub rate : ℕ
  pub channels : ℕ
  pub is : bytes ≡ front ++ codes "fmt "
  pub is_front : IsAfterFormat coding rate channels front

-- bytes that end with a size of `fmt ` that is too small
pub record HasShortFormat (bytes : List ℕ) : Type 0 where
  pub front : List ℕ
  pub size_field : List ℕ
  pub size : ℕ
  pub is : bytes ≡ front ++ (codes "fmt " ++ size_field)
  pub is_front : IsBeforeFormat front
  pub is_size : IsLittle size size_field
  pub bad : size < 16

-- bytes that end with the first sixteen bytes of `fmt `
pub record StatesSound (tag channels rate bits : ℕ) (bytes : List ℕ) : Type 0 where
  pub front : List ℕ
  pub size_field : List ℕ
  pub format : List ℕ
  pub size : ℕ
  pub is : bytes ≡ front ++ (codes "fmt " ++ (size_field ++ format))
  pub is_front : IsBeforeFormat front
  pub is_size : IsLittle size size_field
  pub good_size : 16 ≤ size
  pub states : StatesFormat tag channels rate bits format

-- these, with a coding that is not read here
pub record HasWaveCoding (tag bits : ℕ) (bytes : List ℕ) : Type 0 where
  pub channels : ℕ
  pub rate : ℕ
  pub states : StatesSound tag channels rate bits bytes
  pub bad : wave_coding tag bits ≡ None

-- these, with only the channels bad
pub record HasWaveShape (rate channels : ℕ) (bytes : List ℕ) : Type 0 where
  pub tag : ℕ
  pub bits : ℕ
  pub coding : Coding
  pub states : StatesSound tag channels rate bits bytes
  pub good_coding : wave_coding tag bits ≡ Some coding
  pub bad : has_shape channels ≡ false

-- the bytes end where a fault of a WAVE header shows
abbrev pub HasWaveFault : List ℕ → SoundFault → Type 0
HasWaveFault bytes BadMagic = (length bytes ≡ 12) × (IsRiff bytes → ⊥)
HasWaveFault bytes BadHead = HasDataFirst bytes ⊎ HasSecondFormat bytes ⊎ HasShortFormat bytes
HasWaveFault bytes (BadCoding tag bits) = HasWaveCoding tag bits bytes
HasWaveFault bytes (BadShape rate channels) = HasWaveShape rate channels bytes
