-- The sample types of the wire: their codes and the bytes of one sample.
use Rattle.std.specs.Prelude.{ℕ, ◌*◌, Option, Some, None, if◌then◌else◌, ◌==◌}
use Rattle.af_sample.specs.declared.sample_type.SampleType.{SampleType}
use Rattle.af_sample.specs.declared.sample_type.SampleType.TheVariants.{Mu255, Alaw, Lin16, Lin32}

-- the code of a sample type in requests and setups
abbrev pub code_of : SampleType → ℕ
code_of Mu255 = 0
code_of Alaw = 1
code_of Lin16 = 2
code_of Lin32 = 3

-- how many bytes one sample takes
abbrev pub width_of : SampleType → ℕ
width_of Mu255 = 1
width_of Alaw = 1
width_of Lin16 = 2
width_of Lin32 = 4

-- how many bytes a frame of so many channels takes: a sample for each of them
abbrev pub frame_bytes : SampleType → ℕ → ℕ
frame_bytes ty channels = width_of ty * channels

-- the sample type of a code, if there is one
abbrev pub type_of_code : ℕ → Option SampleType
type_of_code code =
    if code == 0 then Some Mu255
    else (if code == 1 then Some Alaw
    else (if code == 2 then Some Lin16
    else (if code == 3 then Some Lin32
    else None)))
