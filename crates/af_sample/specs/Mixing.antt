-- Sums of samples within 16 bits.
use Rattle.std.specs.Prelude.{ℤ, ◌+ℤ◌}
use Rattle.std.specs.Int.{w16, saturate_signed}

-- the number in -32768..32767 that is nearest
abbrev pub saturated : ℤ → ℤ
saturated x = saturate_signed w16 x

-- the sum of two samples, saturated
abbrev pub mixed : ℤ → ℤ → ℤ
mixed a b = saturated (a +ℤ b)
