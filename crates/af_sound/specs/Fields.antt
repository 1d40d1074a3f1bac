-- The fields of headers, and what they state.
use Rattle.std.specs.Prelude.{◌≡◌, ℕ, Bool, ◌==◌, ◌||◌, if◌then◌else◌, Option, Some, None, List, length}
use Rattle.std.specs.Int.{w16, w32, from_be_bytes, from_le_bytes}

-- four bytes that spell a number, the most significant first
pub record IsBig (number : ℕ) (field : List ℕ) : Type 0 where
  pub size : length field ≡ 4
  pub is : from_be_bytes w32 field ≡ number

-- four bytes that spell a number, the least significant first
pub record IsLittle (number : ℕ) (field : List ℕ) : Type 0 where
  pub size : length field ≡ 4
  pub is : from_le_bytes w32 field ≡ number

-- two bytes that spell a number, the least significant first
pub record IsLittle16 (number : ℕ) (field : List ℕ) : Type 0 where
  pub size : length field ≡ 2
  pub is : from_le_bytes w16 field ≡ number

-- a sound has one channel or two
abbrev pub has_shape : ℕ → Bool
has_shape channels = channels == 1 || channels == 2

-- the number for a length that is not known: the greatest of four bytes
abbrev pub unknown_length : ℕ
unknown_length = 4294967295

-- the length that a number states
abbrev pub length_of : ℕ → Option ℕ
length_of size = if size == unknown_length then None else Some size
