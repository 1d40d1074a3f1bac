-- Numbers that are spelled in a byte order and read again.
use Rattle.std.proofs.Common.{◌≡◌, ◌<◌, ◌^◌, ◌∙◌, ℕ, ℤ, ap}
use Rattle.std.specs.Prelude.{FitsSigned}
use Rattle.std.specs.Int.{w16, cast_signed, cast_unsigned}
use Rattle.std.proofs.Math.Facts.{Fits-of_z, Fits-lt-pow}
use Rattle.std.proofs.lemmas.Int.{to_z-of_z}
use Rattle.std.proofs.lemmas.Nat.{from_be_bytes-to_be_bytes_2, from_be_bytes-to_be_bytes_4, from_le_bytes-to_le_bytes_2, from_le_bytes-to_le_bytes_4}
use Rattle.af_wire.specs.declared.order.Order.{Order}
use Rattle.af_wire.specs.declared.order.Order.TheVariants.{Big, Little}
use Rattle.af_wire.specs.Order.{i16_bytes, i16_of, u16_bytes, u16_of, u32_bytes, u32_of}

pub u16_again : (order : Order) (n : ℕ) → n < 2 ^ 16 → u16_of order (u16_bytes order n) ≡ n
u16_again Big n low = from_be_bytes-to_be_bytes_2 n low
u16_again Little n low = from_le_bytes-to_le_bytes_2 n low

pub u32_again : (order : Order) (n : ℕ) → n < 2 ^ 32 → u32_of order (u32_bytes order n) ≡ n
u32_again Big n low = from_be_bytes-to_be_bytes_4 n low
u32_again Little n low = from_le_bytes-to_le_bytes_4 n low

pub i16_again : (order : Order) (x : ℤ) → FitsSigned w16 x → i16_of order (i16_bytes order x) ≡ x
i16_again order x fits = ap (cast_signed w16) (u16_again order (cast_unsigned w16 x) (Fits-lt-pow (Fits-of_z fits))) ∙ to_z-of_z w16 x fits
