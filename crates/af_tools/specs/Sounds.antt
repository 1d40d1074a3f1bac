-- The sound that a source gives to play: samples, or a sound file.
use Rattle.std.specs.Prelude.{ℕ, ◌^◌, ◌≡◌, ◌-◌, ◌*◌, ◌≤◌, nat_lt, min, if◌then◌else◌, List, ◌++◌, length, take, drop}
use Rattle.std.specs.Prelude.{slice_get, unwrap_or, option_map, IfSome, Option, None, Some, Result, Ok, Err}
use Rattle.std.specs.Option.{option_map_or}
use Rattle.af_sample.specs.declared.sample_type.SampleType.{SampleType}
use Rattle.af_sample.specs.declared.sample_type.SampleType.TheVariants as ty
use Rattle.af_sample.specs.SampleTypes.{width_of}
use Rattle.af_sound.specs.declared.head.Coding.{Coding}
use Rattle.af_sound.specs.declared.head.Coding.TheVariants as coding
use Rattle.af_sound.specs.declared.head.HeadStep.{HeadStep}
use Rattle.af_sound.specs.declared.head.HeadStep.TheVariants as step
use Rattle.af_sound.specs.declared.head.SoundForm.{SoundForm}
use Rattle.af_sound.specs.declared.head.SoundHead.{SoundHead}
use Rattle.af_sound.specs.Fronts.{front_of, Front}
use Rattle.af_sound.specs.Heads.{IsHead}
use Rattle.af_sound.specs.Served.{served_bytes, served_length, HasWholePairs}
use Rattle.af_sound.specs.Written.{sample_size}
use Rattle.af_request.specs.declared.reply.DeviceInfo.{DeviceInfo}
use Rattle.af_cli.specs.declared.job.PlayJob.{PlayJob}
use Rattle.af_toolkit.specs.Trace.{Finish, bad_sound, one_shape, sound_cut, too_long, value_by}
use Rattle.af_tools.specs.declared.sound.SourceSound.{SourceSound}

-- how many bytes a source may give, with the header of a file
abbrev pub most_bytes : ℕ
most_bytes = 2 ^ 40

-- the sample type in which a server takes the samples of a file
abbrev pub served_type : Coding → SampleType
served_type coding.Mu255 = ty.Mu255
served_type coding.Alaw = ty.Alaw
served_type coding.Lin16Big = ty.Lin16
served_type coding.Lin16Little = ty.Lin16
served_type coding.U8 = ty.Lin16

-- the bytes of a sound, of those after its header: as many as are stated, or all
abbrev pub stated_part : Option ℕ → List ℕ → List ℕ
stated_part len bytes = option_map_or (λ n. take n bytes) len bytes

-- the sound as a server takes it: a file's samples are converted, and raw ones stay
abbrev pub as_served : Option Coding → List ℕ → List ℕ
as_served coding bytes = option_map_or (λ c. served_bytes c bytes) coding bytes

-- the bytes of a sample in the source
abbrev pub source_sample : Option Coding → SampleType → ℕ
source_sample coding ty = option_map_or sample_size coding (width_of ty)

-- the bytes of a frame in the source, which has a sample for each channel
abbrev pub source_width : Option Coding → SampleType → (channels : ℕ) → ℕ
source_width coding ty channels = source_sample coding ty * channels

-- the bytes of a block of n frames of a sound in the source
abbrev pub block_bytes : SourceSound → (frames : ℕ) → ℕ
block_bytes sound frames = frames * source_width sound.coding sound.ty sound.channels

-- A source's bytes are a file whose header has the device's rate and channels: its samples, as a server takes them in this type.
pub record IsFileSound (form : SoundForm) (device : DeviceInfo) (bytes : List ℕ) (ty : SampleType)
    (samples : List ℕ) : Type 0 where
  pub front : List ℕ
  pub rest : List ℕ
  pub head : SoundHead
  pub is : bytes ≡ front ++ rest
  pub is_head : IsHead form front head
  pub one_rate : head.rate ≡ device.rate
  pub one_shape : head.channels ≡ device.channels
  pub is_type : ty ≡ served_type head.coding
  pub is_samples : samples ≡ served_bytes head.coding (stated_part head.length rest)

-- What a source gives to be heard: its bytes, in the stated type or else the device's, or the samples that a sound file means.
abbrev pub GivesSamples : Option SoundForm → PlayJob → DeviceInfo → List ℕ → SampleType → List ℕ → Type 0
GivesSamples None job device bytes ty samples = (ty ≡ unwrap_or job.ty device.ty) × (samples ≡ bytes)
GivesSamples (Some form) job device bytes ty samples = IsFileSound form device bytes ty samples

-- a job can be played: its device exists, and the source is not too long, and is any, or a sound file that fits the device
abbrev pub IsPlayable : PlayJob → List DeviceInfo → List ℕ → Type 0
IsPlayable job devices bytes =
    (device : DeviceInfo) × (slice_get devices job.device ≡ Some device) × (length bytes ≤ most_bytes)
    × (ty : SampleType) × (samples : List ℕ) × GivesSamples job.form job device bytes ty samples

-- the samples of a source without a header
abbrev pub raw_sound : PlayJob → DeviceInfo → SourceSound
raw_sound job device =
    record { ty = unwrap_or job.ty device.ty; channels = device.channels; coding = None; head = 0; length = None }

-- the samples of a file after a header of n bytes, which has the channels of its device
abbrev pub file_sound : DeviceInfo → SoundHead → ℕ → SourceSound
file_sound device head size = record {
  ty = served_type head.coding;
  channels = device.channels;
  coding = Some head.coding;
  head = size;
  length = head.length;
}

-- what the front of a file says: its header, or an end for its fault, or for the end of the source
abbrev pub header_or_end : HeadStep → Result SoundHead Finish
header_or_end (step.Head head) = Ok head
header_or_end (step.Bad fault) = Err (bad_sound fault)
header_or_end step.More = Err sound_cut

-- the header of a file, from at most as many bytes as aplay takes
abbrev pub reads_front : Front → Result SoundHead Finish
reads_front front = if nat_lt most_bytes front.size then Err too_long else header_or_end front.says

-- a header that has the rate and the channels of its device
abbrev pub fits_device : DeviceInfo → SoundHead → Result (Unit {0}) Finish
fits_device device head = one_shape head.rate head.channels device.rate device.channels

-- a file of the shape of its device: its sound, and the bytes after its header
abbrev pub reads_file : DeviceInfo → Front → List ℕ → Result (SourceSound × List ℕ) Finish
reads_file device front bytes =
    value_by (reads_front front) (λ head. value_by (fits_device device head) (λ _.
    Ok (file_sound device head front.size, drop front.size bytes)))

-- what a source gives to be played: its sound, and the bytes after a header
abbrev pub reads_sound : Option SoundForm → PlayJob → DeviceInfo → List ℕ → Result (SourceSound × List ℕ) Finish
reads_sound None job device bytes = Ok (raw_sound job device, bytes)
reads_sound (Some form) job device bytes = reads_file device (front_of form bytes) bytes

-- a sound can have so many more bytes, by the stated length that is left
abbrev pub FitsStated : Option ℕ → ℕ → Type 0
FitsStated left count = IfSome left (λ n. count ≤ n)

abbrev pub stated_after : Option ℕ → ℕ → Option ℕ
stated_after left count = option_map (λ n. n - count) left

-- how many bytes of a block there can be
abbrev pub stated_room : Option ℕ → ℕ → ℕ
stated_room (Some left) room = min room left
stated_room None room = room

-- a sound as it is read: its type is the one in which its coding is served
abbrev pub IsServedAs : Option Coding → SampleType → Type 0
IsServedAs coding ty = IfSome coding (λ c. ty ≡ served_type c)

-- room for a block as a server takes it, and whole samples in it
abbrev pub served_room : Option Coding → ℕ → ℕ
served_room coding count = option_map_or (λ c. served_length c count) coding 0

abbrev pub AreWhole : Option Coding → ℕ → Type 0
AreWhole coding count = IfSome coding (λ c. HasWholePairs c count)
