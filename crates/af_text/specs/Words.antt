-- The words of a line that are numbers.
use Rattle.std.specs.Prelude.{ℕ, nat_le, ◌&&◌, Bool, List, length, Option, Some, None, option_and_then, if◌then◌else◌}
use Rattle.std.specs.Str.{all_ascii_digits}
use Rattle.std.specs.Str.Parse.{digits_value}

-- a value, if the flag is set
abbrev pub then_some : {A : Type 0} → Bool → A → Option A
then_some is_there x = if is_there then Some x else None

-- a value, if the test holds of it
abbrev pub only_if : {A : Type 0} → (A → Bool) → A → Option A
only_if test x = then_some (test x) x

-- the number that a word of decimal digits states, if it has 1 to so many digits
abbrev pub number_up_to : ℕ → List ℕ → Option ℕ
number_up_to most word =
    if nat_le 1 (length word) && nat_le (length word) most && all_ascii_digits word then Some (digits_value 10 word) else None

-- a number, if it lies between these two
abbrev pub lying_between : ℕ → ℕ → Option ℕ → Option ℕ
lying_between low high number = option_and_then (only_if (λ n. nat_le low n && nat_le n high)) number

-- the number of a word of 1 to 10 decimal digits
abbrev pub number_of : List ℕ → Option ℕ
number_of word = number_up_to 10 word

-- the number of a word, if it lies between these two
abbrev pub number_within : ℕ → ℕ → List ℕ → Option ℕ
number_within low high word = lying_between low high (number_of word)

-- the number of a word of 1 to 20 decimal digits
abbrev pub long_number_of : List ℕ → Option ℕ
long_number_of word = number_up_to 20 word

-- the number of such a word, if it lies between these two
abbrev pub long_number_within : ℕ → ℕ → List ℕ → Option ℕ
long_number_within low high word = lying_between low high (long_number_of word)
