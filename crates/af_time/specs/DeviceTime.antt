-- Device time as a whole number, and as the 32-bit word that requests and replies carry.
--
-- A device's time is a natural number that begins at the device's stated start plus 2^32, so that times before the start are
-- natural numbers too. Only times modulo 2^32, and differences, are ever seen.
use Rattle.std.specs.Prelude.{◌≡◌, ℕ, ◌+◌, ◌-◌, ◌*◌, ◌/◌, ◌%◌, ◌^◌, ◌<◌, ◌≤◌, ℤ, if◌then◌else◌, nat_lt}
use Rattle.std.specs.Int.{w32, cast_signed}

-- how far a word is ahead of a time, modulo 2^32: from 2^31 on it is late
abbrev pub ahead : ℕ → ℕ → ℕ
ahead now w = (w + (2 ^ 32 - now % 2 ^ 32)) % 2 ^ 32

-- the whole time that a word means at a time: the nearest one with that word; one that is 2^31 ahead counts as late
unfoldable pub unwrap : ℕ → ℕ → ℕ
unwrap now w =
    if nat_lt (ahead now w) (2 ^ 31) then now + ahead now w else now - (2 ^ 32 - ahead now w)

-- a whole time that has a word, and is from 2^31 before a time to 2^31 - 1 after it
pub record IsMeant (now w whole : ℕ) : Type 0 where
  pub word : whole % 2 ^ 32 ≡ w
  pub early : now ≤ whole + 2 ^ 31
  pub late : whole < now + 2 ^ 31

-- the difference of two words as a 32-bit two's complement number
abbrev pub word_difference : ℕ → ℕ → ℤ
word_difference a b = cast_signed w32 ((a + (2 ^ 32 - b)) % 2 ^ 32)

-- two whole times that have two words, and a difference from -2^31 to 2^31 - 1
pub record AreNear (a b v w : ℕ) : Type 0 where
  pub first : a % 2 ^ 32 ≡ v
  pub second : b % 2 ^ 32 ≡ w
  pub early : b ≤ a + 2 ^ 31
  pub late : a < b + 2 ^ 31

-- how many frames last so many milliseconds, truncated
abbrev pub frames_lasting : ℕ → ℕ → ℕ
frames_lasting rate ms = rate * ms / 1000
