-- The fields of requests and replies: numbers in the order of a link at their offsets, and padding to words of 4 bytes.
use Rattle.std.specs.Prelude.{ℕ, ◌+◌, ◌-◌, ◌*◌, if◌then◌else◌, Bool, ℤ, List, ◌++◌, length, slice_index, slice_range, replicate}
use Rattle.std.specs.Int.{div_ceil}
use Rattle.af_wire.specs.declared.order.Order.{Order}
use Rattle.af_wire.specs.Order.{i16_of, u16_of, u32_of}

-- the byte at an offset
abbrev pub u8_at : ℕ → List ℕ → ℕ
u8_at at bytes = slice_index bytes at

-- the number of 2 bytes at an offset
abbrev pub u16_at : Order → ℕ → List ℕ → ℕ
u16_at order at bytes = u16_of order (slice_range bytes at (at + 2))

-- the number of 4 bytes at an offset
abbrev pub u32_at : Order → ℕ → List ℕ → ℕ
u32_at order at bytes = u32_of order (slice_range bytes at (at + 4))

-- the two's complement number of 2 bytes at an offset
abbrev pub i16_at : Order → ℕ → List ℕ → ℤ
i16_at order at bytes = i16_of order (slice_range bytes at (at + 2))

-- a flag: 1 for true, 0 for false
abbrev pub flag_byte : Bool → ℕ
flag_byte set = if set then 1 else 0

-- how many words of 4 bytes n bytes take, the last of them padded
abbrev pub words_for : ℕ → ℕ
words_for count = div_ceil count 4

-- bytes, padded with zeros to whole words
abbrev pub padded_bytes : List ℕ → List ℕ
padded_bytes bytes = bytes ++ replicate (4 * words_for (length bytes) - length bytes) 0
