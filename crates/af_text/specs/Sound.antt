-- Words for the sound of a device.
use Rattle.std.specs.Prelude.{ℕ, List, [], ◌∷◌, codes, bytes_eq, Option, Some, None, option_and_then, if◌then◌else◌}
use Rattle.af_sample.specs.Rates.{is_listed_rate}
use Rattle.af_sample.specs.declared.sample_type.SampleType.{SampleType}
use Rattle.af_sample.specs.declared.sample_type.SampleType.TheVariants.{Mu255, Alaw, Lin16, Lin32}
use Rattle.af_text.specs.Words.{number_of, only_if}

-- the sample type of a word
abbrev pub type_of : List ℕ → Option SampleType
type_of word =
    if bytes_eq word (codes "mu255") then Some Mu255
    else if bytes_eq word (codes "alaw") then Some Alaw
    else if bytes_eq word (codes "lin16") then Some Lin16
    else if bytes_eq word (codes "lin32") then Some Lin32
    else None

-- the rate of a word, if it is listed
abbrev pub rate_of : List ℕ → Option ℕ
rate_of word = option_and_then (only_if is_listed_rate) (number_of word)

-- how many channels a device has by the words after `device TYPE RATE START`: two if `stereo` is the first, and else one
abbrev pub channels_stated : List (List ℕ) → ℕ
channels_stated [] = 1
channels_stated (word ∷ words) = if bytes_eq word (codes "stereo") then 2 else 1

-- the words after `stereo`, if that is the first of these, and else all of them
abbrev pub after_channels : List (List ℕ) → List (List ℕ)
after_channels [] = []
after_channels (word ∷ words) = if bytes_eq word (codes "stereo") then words else word ∷ words
