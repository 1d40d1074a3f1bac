-- Gains in whole decibels, and what they make of a sample.
use Rattle.std.specs.Prelude.{ℕ, zero, suc, ◌*◌, ◌^◌, nat_le, nat_abs, Bool, ◌&&◌, if◌then◌else◌, ℤ, pos, negsuc, ◌≤ℤ◌, ◌*ℤ◌, int_le, int_div, Option, Some, None}
use Rattle.af_sample.specs.Mixing.{saturated}

-- a gain is a whole number of decibels from -30 to 30
abbrev pub IsGain : ℤ → Type 0
IsGain db = (negsuc 29 ≤ℤ db) × (db ≤ℤ pos 30)

-- the gain of a number of decibels, if it is one
abbrev pub gain_of : ℤ → Option ℤ
gain_of db = if int_le (negsuc 29) db && int_le db (pos 30) then Some db else None

-- whether m / 1024 is at most 10 ^ (db / 20), the ratio of amplitudes for db decibels, by twentieth powers
abbrev pub is_within : ℤ → ℕ → Bool
is_within (pos n) m = nat_le (m ^ 20) (1024 ^ 20 * 10 ^ n)
is_within (negsuc n) m = nat_le (m ^ 20 * 10 ^ suc n) (1024 ^ 20)

-- the greatest number up to a bound that passes a test, or 0
abbrev pub greatest_number : (ℕ → Bool) → ℕ → ℕ
greatest_number passes zero = zero
greatest_number passes (suc n) = if passes (suc n) then suc n else greatest_number passes n

-- the greatest m within n decibels: the bound is above each such m
unfoldable pub multiplier : ℤ → ℕ
multiplier db = greatest_number (is_within db) (1024 ^ 20 * 10 ^ nat_abs db)

-- a sample times m / 1024, truncated toward zero and saturated
abbrev pub scaled : ℕ → ℤ → ℤ
scaled m x = saturated (int_div (x *ℤ pos m) (pos 1024))

-- a sample with a gain in decibels
abbrev pub gained : ℤ → ℤ → ℤ
gained x db = scaled (multiplier db) x
