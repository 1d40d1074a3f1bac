-- The sound of a file as a server takes it, and the reverse.
use Rattle.std.specs.Prelude.{◌≡◌, ◌*◌, ◌%◌, ℕ, ℤ, pos, ◌-ℤ◌, ◌*ℤ◌, List, [], ◌∷◌, map}
use Rattle.af_sample.specs.declared.sample_type.SampleType.TheVariants as ty
use Rattle.af_sample.specs.Samples.{bytes_of}
use Rattle.af_sound.specs.declared.head.Coding.{Coding}
use Rattle.af_sound.specs.declared.head.Coding.TheVariants.{Mu255, Alaw, Lin16Big, Lin16Little, U8}

-- the bytes of each pair swapped
abbrev pub swapped_pairs : List ℕ → List ℕ
swapped_pairs (low ∷ high ∷ rest) = high ∷ low ∷ swapped_pairs rest
swapped_pairs (last ∷ []) = []
swapped_pairs [] = []

-- the sample of a byte whose silence is 128
abbrev pub sample_of : ℕ → ℤ
sample_of byte = (pos byte -ℤ pos 128) *ℤ pos 256

-- the bytes that a server takes: mu-law, A-law or big-endian samples of 16 bits
abbrev pub served_bytes : Coding → List ℕ → List ℕ
served_bytes Mu255 bytes = bytes
served_bytes Alaw bytes = bytes
served_bytes Lin16Big bytes = bytes
served_bytes Lin16Little bytes = swapped_pairs bytes
served_bytes U8 bytes = bytes_of ty.Lin16 (map sample_of bytes)

-- the sound of a file that a server takes as these samples, in a coding that is written
abbrev pub filed_bytes : Coding → List ℕ → List ℕ
filed_bytes Mu255 bytes = bytes
filed_bytes Alaw bytes = bytes
filed_bytes Lin16Big bytes = bytes
filed_bytes Lin16Little bytes = swapped_pairs bytes
filed_bytes U8 bytes = bytes

-- how many bytes a server takes for so many bytes of a file
abbrev pub served_length : Coding → ℕ → ℕ
served_length Mu255 count = count
served_length Alaw count = count
served_length Lin16Big count = count
served_length Lin16Little count = count
served_length U8 count = count * 2

-- samples of 16 bits are whole
abbrev pub HasWholePairs : Coding → ℕ → Type 0
HasWholePairs Mu255 count = Unit {0}
HasWholePairs Alaw count = Unit {0}
HasWholePairs Lin16Big count = count % 2 ≡ 0
HasWholePairs Lin16Little count = count % 2 ≡ 0
HasWholePairs U8 count = Unit {0}
