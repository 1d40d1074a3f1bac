-- The byte order of a link, and numbers of two and of four bytes in it.
use Rattle.std.specs.Prelude.{ℕ, ℤ, List, [], ◌∷◌}
use Rattle.std.specs.Int.{w16, w32, byte_at, cast_signed, cast_unsigned, from_be_bytes, from_le_bytes}
use Rattle.af_wire.specs.declared.order.Order.{Order}
use Rattle.af_wire.specs.declared.order.Order.TheVariants.{Big, Little}

-- one of two, by the order
abbrev pub by_order : {A : Type 0} → Order → A → A → A
by_order Big big little = big
by_order Little big little = little

-- the number that two bytes are, and four: the most significant byte comes first in Big, and last in Little
abbrev pub u16_of : Order → List ℕ → ℕ
u16_of order bytes = by_order order (from_be_bytes w16 bytes) (from_le_bytes w16 bytes)

abbrev pub u32_of : Order → List ℕ → ℕ
u32_of order bytes = by_order order (from_be_bytes w32 bytes) (from_le_bytes w32 bytes)

-- the bytes of a number, with byte 0 as the least significant: from the highest down in Big, and from the lowest up in Little
abbrev pub u16_bytes : Order → ℕ → List ℕ
u16_bytes order n = byte_at (by_order order 1 0) n ∷ byte_at (by_order order 0 1) n ∷ []

abbrev pub u32_bytes : Order → ℕ → List ℕ
u32_bytes order n =
    byte_at (by_order order 3 0) n ∷ byte_at (by_order order 2 1) n ∷ byte_at (by_order order 1 2) n
    ∷ byte_at (by_order order 0 3) n ∷ []

-- two bytes of a number in two's complement
abbrev pub i16_of : Order → List ℕ → ℤ
i16_of order bytes = cast_signed w16 (u16_of order bytes)

abbrev pub i16_bytes : Order → ℤ → List ℕ
i16_bytes order x = u16_bytes order (cast_unsigned w16 x)

-- the name that a setup of a byte order begins with, as one number: "AFB" and a zero, or "AFl" and a zero
abbrev pub magic : Order → ℕ
magic order = by_order order 0x41464200 0x41466c00
