-- The header of an .au file: six big-endian numbers and an annotation. The first number is a name.
use Rattle.std.specs.Prelude.{◌≡◌, ◌≢◌, ◌<◌, ◌≤◌, ◌+◌, ℕ, IsTrue, false, ◌==◌, if◌then◌else◌, Option, Some, None, List, ◌++◌, length, codes}
use Rattle.af_sound.specs.declared.head.Coding.{Coding}
use Rattle.af_sound.specs.declared.head.Coding.TheVariants.{Mu255, Alaw, Lin16Big}
use Rattle.af_sound.specs.declared.head.SoundHead.{SoundHead}
use Rattle.af_sound.specs.declared.head.SoundFault.{SoundFault}
use Rattle.af_sound.specs.declared.head.SoundFault.TheVariants.{BadMagic, BadHead, BadCoding, BadShape}
use Rattle.af_sound.specs.Fields.{IsBig, has_shape, length_of}

-- the coding for an encoding's number, if it is read here
abbrev pub au_coding : ℕ → Option Coding
au_coding encoding =
    if encoding == 1 then Some Mu255
    else if encoding == 3 then Some Lin16Big
    else if encoding == 27 then Some Alaw
    else None

-- 24 bytes: the name, the offset of the sound, its size, its encoding, its rate and its channels
pub record StatesAu (offset size encoding rate channels : ℕ) (bytes : List ℕ) : Type 0 where
  pub offset_field : List ℕ
  pub size_field : List ℕ
  pub encoding_field : List ℕ
  pub rate_field : List ℕ
  pub channels_field : List ℕ
  pub is : bytes ≡ codes ".snd" ++ (offset_field ++ (size_field ++ (encoding_field ++ (rate_field ++ channels_field))))
  pub is_offset : IsBig offset offset_field
  pub is_size : IsBig size size_field
  pub is_encoding : IsBig encoding encoding_field
  pub is_rate : IsBig rate rate_field
  pub is_channels : IsBig channels channels_field

-- a header of an .au file: the sound begins at its offset, after the six numbers and the annotation
pub record IsAuHead (bytes : List ℕ) (head : SoundHead) : Type 0 where
  pub offset : ℕ
  pub size : ℕ
  pub encoding : ℕ
  pub numbers : List ℕ
  pub annotation : List ℕ
  pub is : bytes ≡ numbers ++ annotation
  pub states : StatesAu offset size encoding head.rate head.channels numbers
  pub is_offset : offset ≡ 24 + length annotation
  pub is_length : head.length ≡ length_of size
  pub is_coding : au_coding encoding ≡ Some head.coding
  pub is_shape : IsTrue (has_shape head.channels)

-- six numbers whose encoding is not read here
pub record HasAuCoding (encoding : ℕ) (bytes : List ℕ) : Type 0 where
  pub offset : ℕ
  pub size : ℕ
  pub rate : ℕ
  pub channels : ℕ
  pub states : StatesAu offset size encoding rate channels bytes
  pub good_offset : 24 ≤ offset
  pub bad : au_coding encoding ≡ None

-- six numbers; only the channels are bad
pub record HasAuShape (rate channels : ℕ) (bytes : List ℕ) : Type 0 where
  pub offset : ℕ
  pub size : ℕ
  pub encoding : ℕ
  pub coding : Coding
  pub states : StatesAu offset size encoding rate channels bytes
  pub good_offset : 24 ≤ offset
  pub good_coding : au_coding encoding ≡ Some coding
  pub bad : has_shape channels ≡ false

-- six numbers with an offset that points into them
pub record HasAuOffset (bytes : List ℕ) : Type 0 where
  pub offset : ℕ
  pub size : ℕ
  pub encoding : ℕ
  pub rate : ℕ
  pub channels : ℕ
  pub states : StatesAu offset size encoding rate channels bytes
  pub bad : offset < 24

-- the bytes end where a fault of an .au header shows: a bad name after its four bytes, and any other fault after the six numbers
abbrev pub HasAuFault : List ℕ → SoundFault → Type 0
HasAuFault bytes BadMagic = (length bytes ≡ 4) × (bytes ≢ codes ".snd")
HasAuFault bytes BadHead = HasAuOffset bytes
HasAuFault bytes (BadCoding tag bits) = HasAuCoding tag bytes × (bits ≡ 0)
HasAuFault bytes (BadShape rate channels) = HasAuShape rate channels bytes
