-- What the core keeps of a device and of a link.
use Rattle.std.specs.Prelude.{◌≡◌, ℕ, ◌+◌, ◌*◌, ◌≤◌, Bool, List, [], ◌∷◌, length, is_some, option_map, slice_get}
use Rattle.std.specs.declared.option.Option.{Option}
use Rattle.std.specs.declared.option.Option.TheVariants.{Some}
use Rattle.af_limits.specs.Limits.{longest_message, most_unread, event_limit}
use Rattle.af_sample.specs.declared.sample_type.SampleType.{SampleType}
use Rattle.af_sample.specs.Rates.{IsListedRate}
use Rattle.af_buffers.specs.PlayBuffer.{PlayWindow, Hears}
use Rattle.af_buffers.specs.RecordBuffer.{RecordWindow, Keeps}
use Rattle.af_request.specs.declared.reply.Controls.{Controls}
use Rattle.af_request.specs.declared.reply.DeviceInfo.{DeviceInfo}
use Rattle.af_request.specs.declared.reply.Phone.{Phone}
use Rattle.af_model.specs.State.{DeviceState, LinkState}
use Rattle.af_model.specs.Reply.{horizon_of}
use Rattle.af_model.specs.NoLoss.{LosesNone}

-- A device: the next frames from its time on, and the last ones before it. The time and the channels are those of both.
pub record KeptDevice : Type 0 where
  pub ty : SampleType
  pub rate : ℕ
  pub next : PlayWindow
  pub last : RecordWindow
  pub controls : Controls
  pub line : Option Phone
  pub is_dead : Bool

-- A device stands for each state in which its time is the 32-bit word, its next samples are what is heard of the accepted plays
-- from then on, and its last samples are what was captured recently. In such a state no deferred request has lost a sample. None
-- of the history is kept.
pub record StandsForDevice (d : KeptDevice) (s : DeviceState) : Type 0 where
  pub ty : d.ty ≡ s.ty
  pub rate : d.rate ≡ s.rate
  pub listed : IsListedRate s.rate
  pub ahead : d.next.horizon ≡ horizon_of s
  pub back : d.last.horizon ≡ horizon_of s
  pub hears : Hears d.next s.channels s.accepted s.now
  pub keeps : Keeps d.last s.channels s.captured s.begin s.now
  pub whole : LosesNone s
  pub controls : d.controls ≡ s.controls
  pub line : d.line ≡ s.line
  pub dead : d.is_dead ≡ s.is_dead

-- devices stand for states of devices one by one
abbrev pub StandForDevices : List KeptDevice → List DeviceState → Type 0
StandForDevices [] [] = Unit {0}
StandForDevices [] (s ∷ ss) = ⊥
StandForDevices (d ∷ ds) [] = ⊥
StandForDevices (d ∷ ds) (s ∷ ss) = StandsForDevice d s × StandForDevices ds ss

-- the channels of a device, if it exists
abbrev pub kept_channels_at : List KeptDevice → ℕ → Option ℕ
kept_channels_at ds d = option_map (λ device. device.next.channels) (slice_get ds d)

-- this holds of the device at a number, if it exists
abbrev pub OfDeviceAt : List KeptDevice → ℕ → (KeptDevice → Type 0) → Type 0
OfDeviceAt ds d Holds = (device : KeptDevice) → slice_get ds d ≡ Some device → Holds device

-- what the reply to a setup says of a device
abbrev pub kept_info : KeptDevice → DeviceInfo
kept_info d = record { ty = d.ty; channels = d.next.channels; line = is_some d.line; rate = d.rate; horizon = d.rate * 4 }

-- A link never has more than 32768 bytes unread. It never has more to send than 49152 bytes and one reply.
pub record IsBounded (l : LinkState) : Type 0 where
  pub rest : length l.rest ≤ most_unread
  pub pending : length l.pending ≤ event_limit + longest_message
