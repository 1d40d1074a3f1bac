-- What the words of a line can be: numbers, and bytes in hexadecimal.
use Rattle.std.specs.Prelude.{ℕ, nat_le, ◌&&◌, List, length, Option, option_and_then}
use Rattle.std.specs.Result.{result_ok}
use Rattle.hex.specs.Hex.{decode_of}
pub use Rattle.af_text.specs.Words.{then_some, only_if, number_of, number_within}

-- the bytes of a word of hexadecimal digits, if their number lies between these two
abbrev pub bytes_within : ℕ → ℕ → List ℕ → Option (List ℕ)
bytes_within low high word =
    option_and_then (only_if (λ bytes. nat_le low (length bytes) && nat_le (length bytes) high)) (result_ok (decode_of word))
