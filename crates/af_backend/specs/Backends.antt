-- The backends of devices: silence; two files, whose bytes are known if std's readers and writers are observable; a delay line,
-- by which the device hears itself; the codec; or a program that the device goes by.
use Rattle.std.specs.Prelude.{◌≡◌, ℕ, ◌*◌, Bool, true, false, List, [], length, map, replicate, slice_index_or, slice_set, option_map}
use Rattle.std.specs.declared.option.Option.{Option}
use Rattle.std.specs.declared.option.Option.TheVariants.{None, Some}
use Rattle.af_limits.specs.Limits.{most_devices}
use Rattle.af_sample.specs.declared.sample_type.SampleType.{SampleType}
use Rattle.af_io.specs.declared.flow.Put.{Put}
use Rattle.af_io.specs.declared.flow.Put.TheVariants as put
use Rattle.af_io.specs.Real.{WritesOn}
use Rattle.af_world.specs.declared.live.Ready.{Ready}
use Rattle.af_world.specs.declared.live.Ready.TheVariants as ready
use Rattle.af_world.specs.declared.live.Kind.{Kind}
use Rattle.af_world.specs.declared.live.Kind.TheVariants as kind
use Rattle.af_world.specs.declared.script.DeviceSpec.{DeviceSpec}
use Rattle.af_world.specs.Outside.{silent_byte}
use Rattle.af_process.specs.Acts.{words_of}
use Rattle.af_sample.specs.SampleTypes.{frame_bytes}
use Rattle.af_clock.specs.Pacing.{new_pace, pace_within}
use Rattle.af_loop.specs.DelayLine.{DelayState, Captures, Emits, delay_frames, silent_line}
use Rattle.af_backend.specs.declared.source.Source.{Source}
use Rattle.af_backend.specs.declared.source.Source.TheVariants as source
use Rattle.af_backend.specs.Rounds.{RoundState, round_with}
use Rattle.af_backend.specs.CardUse.{CardUse, IsBegun, CardCaptures, CardEmits, card_orders}
use Rattle.af_backend.specs.declared.attached_device.Backend.{Backend}
use Rattle.af_backend.specs.declared.attached_device.Backend.TheVariants as backend
use Rattle.af_backend.specs.FileBytes.{FileState, FillsRoom}
use Rattle.af_backend.specs.CodecUse.{CodecUse, CodecTakes}

-- the backend of an attached device: silence of a sample type; two files; a delay line; the codec, with silence of a sample type
-- as its input; or a program that the device goes by
pub data BackendState : Type 0 where
  always_silent : SampleType → BackendState
  over_files : FileState → BackendState
  over_loop : DelayState → BackendState
  over_codec : SampleType → BackendState
  over_card : CardUse → BackendState

abbrev pub backend_state : {F : Type 0} → {P : Type 0} → Backend F P → BackendState
backend_state (backend.Silence ty) = always_silent ty
backend_state (backend.Files files) = over_files files
backend_state (backend.Loop line) = over_loop line
backend_state (backend.Codec ty) = over_codec ty
backend_state (backend.Card card) = over_card card

-- no device is attached
abbrev pub none_attached : List (Option BackendState)
none_attached = replicate most_devices None

-- the backend of the device with a number, if it is attached
abbrev pub backend_at : List (Option BackendState) → ℕ → Option BackendState
backend_at devices d = slice_index_or devices d None

-- what stands between a device and the program that it goes by, if it goes by one
abbrev pub card_of : Option BackendState → Option CardUse
card_of (Some (over_card card)) = Some card
card_of (Some (always_silent ty)) = None
card_of (Some (over_files f)) = None
card_of (Some (over_loop line)) = None
card_of (Some (over_codec ty)) = None
card_of None = None

-- the same, whatever its files or its delay line hold, and whatever went between it and its program
abbrev pub without_bytes : BackendState → BackendState
without_bytes (always_silent ty) = always_silent ty
without_bytes (over_files f) = over_files (record f { input = None; output = None })
without_bytes (over_loop line) = over_loop (record { held = []; delay = line.delay })
without_bytes (over_codec ty) = over_codec ty
without_bytes (over_card card) = over_card (card_orders card)

-- the backend of each device, whatever its files hold and whatever went by
unfoldable pub all_without_bytes : List (Option BackendState) → List (Option BackendState)
all_without_bytes devices = map (option_map without_bytes) devices

-- Captures

-- the capture is done, and gives silence
abbrev pub IsSilence : SampleType → Put → List ℕ → Type 0
IsSilence ty answer into = (answer ≡ put.Done) × (into ≡ replicate (length into) (silent_byte ty))

-- Silence and the codec give silence. Files give what their input has, and nothing else of them changes. A delay line gives what
-- it held longest, and a card what its program gave. Without a backend nothing is captured.
abbrev pub CapturesBy : Option BackendState → Put → List ℕ → Option BackendState → Type 0
CapturesBy None answer into after = (answer ≡ put.Failed) × (after ≡ None)
CapturesBy (Some (always_silent ty)) answer into after = IsSilence ty answer into × (after ≡ Some (always_silent ty))
CapturesBy (Some (over_codec ty)) answer into after = IsSilence ty answer into × (after ≡ Some (over_codec ty))
CapturesBy (Some (over_files f)) answer into after =
    (input : Option (List ℕ)) × FillsRoom f.silent answer f.input into input
    × (after ≡ Some (over_files (record f { input = input })))
CapturesBy (Some (over_loop line)) answer into after =
    (line' : DelayState) × Captures answer line into line' × (after ≡ Some (over_loop line'))
CapturesBy (Some (over_card card)) answer into after =
    (card' : CardUse) × CardCaptures answer card into card' × (after ≡ Some (over_card card'))

-- a device captures from its backend, and no other device is changed
abbrev pub CapturesAt : ℕ → Put → List ℕ → List (Option BackendState) → List (Option BackendState) → Type 0
CapturesAt d answer into old new = (after : Option BackendState) × CapturesBy (backend_at old d) answer into after
    × (new ≡ slice_set old d after)

-- Emits

-- Silence takes all. Files have all of a piece added to their output, or a prefix of it if that failed. A delay line has it added
-- after what it holds. The codec takes one emit, and is not changed otherwise. A card hands the piece to its program. Without a
-- backend nothing is taken.
abbrev pub EmitsBy : Option BackendState → Put → List ℕ → Option BackendState → CodecUse → CodecUse → Type 0
EmitsBy None answer sound after codec codec' = (answer ≡ put.Failed) × (after ≡ None) × (codec' ≡ codec)
EmitsBy (Some (always_silent ty)) answer sound after codec codec' =
    (answer ≡ put.Done) × (after ≡ Some (always_silent ty)) × (codec' ≡ codec)
EmitsBy (Some (over_files f)) answer sound after codec codec' =
    (output : Option (List ℕ)) × WritesOn answer f.output sound output
    × (after ≡ Some (over_files (record f { output = output }))) × (codec' ≡ codec)
EmitsBy (Some (over_loop line)) answer sound after codec codec' =
    (line' : DelayState) × Emits answer line sound line' × (after ≡ Some (over_loop line')) × (codec' ≡ codec)
EmitsBy (Some (over_codec ty)) answer sound after codec codec' =
    (after ≡ Some (over_codec ty)) × CodecTakes answer sound codec codec'
EmitsBy (Some (over_card card)) answer sound after codec codec' =
    (card' : CardUse) × CardEmits answer card sound card' × (after ≡ Some (over_card card')) × (codec' ≡ codec)

-- a device emits to its backend, and no other device is changed
abbrev pub EmitsAt : ℕ → Put → List ℕ → List (Option BackendState) → List (Option BackendState) → CodecUse → CodecUse → Type 0
EmitsAt d answer sound old new codec codec' =
    (after : Option BackendState) × EmitsBy (backend_at old d) answer sound after codec codec' × (new ≡ slice_set old d after)

-- Attaches

-- a device of this kind opens files, starts a program or takes memory, which the system may refuse
abbrev pub may_be_refused : Kind → Bool
may_be_refused kind.Loop = true
may_be_refused (kind.Files input output) = true
may_be_refused (kind.Card which restarts words) = true
may_be_refused kind.Silent = false
may_be_refused (kind.Codec restarts words) = false

-- a device of this kind needs nothing of the system but memory
abbrev pub needs_memory_alone : Kind → Bool
needs_memory_alone kind.Loop = true
needs_memory_alone (kind.Files input output) = false
needs_memory_alone (kind.Card which restarts words) = false
needs_memory_alone kind.Silent = false
needs_memory_alone (kind.Codec restarts words) = false

-- the delay line of a device that was just attached: it holds silence, of as many frames as the sound is late
abbrev pub delay_line_of : DeviceSpec → DelayState
delay_line_of spec = silent_line (delay_frames spec.rate * frame_bytes spec.ty spec.channels) (silent_byte spec.ty)

-- the backend of a device of this kind that was just attached, at this moment
abbrev pub IsBackend : Kind → DeviceSpec → ℕ → BackendState → Type 0
IsBackend kind.Silent spec at b = b ≡ always_silent spec.ty
IsBackend (kind.Files input output) spec at b = (f : FileState) × (f.silent ≡ silent_byte spec.ty) × (b ≡ over_files f)
IsBackend kind.Loop spec at b = b ≡ over_loop (delay_line_of spec)
IsBackend (kind.Codec restarts words) spec at b = b ≡ over_codec spec.ty
IsBackend (kind.Card which restarts words) spec at b =
    (begun_card : CardUse) × IsBegun which restarts (words_of words.now) spec begun_card × (begun_card.at ≡ at)
    × (b ≡ over_card begun_card)

-- an attach that was done puts a device there; any other attach changes nothing
abbrev pub AttachesAt : Ready → Kind → ℕ → DeviceSpec → ℕ → List (Option BackendState) → List (Option BackendState) → Type 0
AttachesAt ready.Done k d spec at old new = (b : BackendState) × IsBackend k spec at b × (new ≡ slice_set old d (Some b))
AttachesAt _ k d spec at old new = new ≡ old

-- The clock of a device of this kind: its program, or the system's clock with so many frames a second. A device that hears itself
-- ticks by at most as many frames as its sound is late.
abbrev pub source_of : Kind → ℕ → Source
source_of (kind.Card which restarts words) rate = source.Program
source_of (kind.Files input output) rate = source.Clock (new_pace rate)
source_of (kind.Codec restarts words) rate = source.Clock (new_pace rate)
source_of kind.Loop rate = source.Clock (pace_within (delay_frames rate) rate)
source_of kind.Silent rate = source.Clock (new_pace rate)

-- the round after an attach: if that was done, the device goes on by its clock
abbrev pub round_after : Ready → Kind → RoundState → ℕ → ℕ → RoundState
round_after ready.Done k r d rate = round_with r d (source_of k rate)
round_after _ k r d rate = r
