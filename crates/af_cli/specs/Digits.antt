-- The digits of telephones.
use Rattle.std.specs.Prelude.{ℕ, ◌==◌, ◌&&◌, nat_le, if◌then◌else◌, Bool, true, false, List, [], ◌∷◌, codes, length}

-- their ASCII codes
abbrev pub all_digits : List ℕ
all_digits = codes "0123456789*#ABCD"

-- a code is among these
abbrev pub has_digit : List ℕ → (code : ℕ) → Bool
has_digit [] code = false
has_digit (digit ∷ digits) code = if digit == code then true else has_digit digits code

-- all of these are digits of telephones
abbrev pub are_digits : List ℕ → Bool
are_digits [] = true
are_digits (code ∷ codes) = if has_digit all_digits code then are_digits codes else false

-- the most digits that an argument states
abbrev pub most_digits : ℕ
most_digits = 16

-- a text that states digits: one at least
abbrev pub states_digits : List ℕ → Bool
states_digits text = nat_le 1 (length text) && nat_le (length text) most_digits && are_digits text
