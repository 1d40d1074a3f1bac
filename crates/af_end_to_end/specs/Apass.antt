-- From a device of one server to a device of another: what a relay passes.
use Rattle.std.specs.Prelude.{◌≡◌, ◌≤◌, ◌<◌, ℕ, ◌+◌, ◌-◌, ◌*◌, ◌%◌, ◌^◌, ◌==◌, if◌then◌else◌, Bool, false, ℤ, pos, List, [], ◌∷◌, ◌++◌, flat_map, min, replicate, slice_get, IfSome, Option, None, Some}
use Rattle.std.specs.List.{All}
use Rattle.af_sample.specs.declared.sample_type.SampleType.{SampleType}
use Rattle.af_sample.specs.Channels.{IsChannelCount, frame_count}
use Rattle.af_sample.specs.Gains.{IsGain, gained}
use Rattle.af_sample.specs.Heard.{AcceptedPlay}
use Rattle.af_sample.specs.Rates.{IsListedRate}
use Rattle.af_sample.specs.Samples.{bytes_of, decoded, encoded}
use Rattle.af_wire.specs.Begins.{BeginsWith}
use Rattle.af_wire.specs.Front.{setup_bytes}
use Rattle.af_request.specs.Asked.{Asked, free_ac, get_time, play_run}
use Rattle.af_request.specs.declared.reply.DeviceInfo.{DeviceInfo}
use Rattle.af_world.specs.declared.happening.Happening.TheVariants.{Emitted}
use Rattle.af_world.specs.declared.script.DeviceSpec.{DeviceSpec}
use Rattle.af_world.specs.Log.{Log}
use Rattle.af_cli.specs.declared.job.PassJob.{PassJob}
use Rattle.af_cli.specs.declared.job.RecordJob.{RecordJob}
use Rattle.af_toolkit.specs.Trace.{ClientState}
use Rattle.af_relay.specs.declared.pass.LastFrame.{LastFrame}
use Rattle.af_relay.specs.Pass.{RelayDeeds, block_count, frames_played, pace_from, played_samples, to_context, type_from}
use Rattle.af_relay.specs.Relayed.{PassedBlock, Relayed}
use Rattle.af_model.specs.State.{DeviceState, LinkState, State, slot_at}
use Rattle.af_model.specs.Controls.{through_control}
use Rattle.af_model.specs.Perform.{channels_at}
use Rattle.af_model.specs.Run.{end_state}
use Rattle.af_end_to_end.specs.Playing.{AreTurns, PlayedAt, StaysOpen, Turn, end_of, given_in, plays_in, requests_of}
use Rattle.af_end_to_end.specs.Sounding.{IsAlone, IsHeard, IsInTime, log_of, sample_at}
use Rattle.af_end_to_end.specs.Told.{IsAnswered, IsFresh}
use Rattle.af_end_to_end.specs.Arecord.{IsBlockRecorded, arecord_requests, stretches}

-- The requests of a relay

-- A relay records on its one link as an arecord does that writes blocks of this size as they are.
abbrev pub recorder : PassJob → RecordJob
recorder job = record {
  device = job.from_device;
  form = None;
  ty = job.ty;
  gain = job.gain;
  block = job.block;
  time = None;
  frames = 0;
  seconds = None;
  stop_peak = 0;
  stop_blocks = 1;
  true_header = false;
  strict = false;
}

-- the frames of each block that it records
abbrev pub block_lengths : PassJob → DeviceInfo → List ℕ
block_lengths job device = replicate (block_count job.blocks) (pace_from job device).frames

abbrev pub from_requests : PassJob → DeviceInfo → (start : ℕ) → List Asked
from_requests job device start = arecord_requests (recorder job) device start (stretches 0 (block_lengths job device))

-- for each block it asks for the time of the other device, and plays there what the block has become
abbrev pub block_requests : PassJob → (frame : ℕ) → PassedBlock → List Asked
block_requests job frame block =
    get_time job.to_device ∷ play_run false 1 block.time.0 (played_samples block.last frame block.samples) ∷ []

abbrev pub to_requests : PassJob → DeviceInfo → List PassedBlock → List Asked
to_requests job device blocks =
    to_context job (type_from job device) device.channels
    ∷ (flat_map (block_requests job (pace_from job device).frame) blocks ++ free_ac 1 ∷ [])

-- Where its blocks are played

-- Whole times for the blocks of a relay: each means the word that the play of its block states. A block whose word is the one at
-- which the block before it ends is played right after that.
abbrev pub ArePlaces : (frames : ℕ) → (due : Option ℕ) → List PassedBlock → List ℕ → Type 0
ArePlaces frames due [] places = places ≡ []
ArePlaces frames due (block ∷ more) places = (place : ℕ) × (rest : List ℕ) × (places ≡ place ∷ rest)
    × (place % 2 ^ 32 ≡ block.time.0) × IfSome due (λ at. at % 2 ^ 32 ≡ block.time.0 → place ≡ at)
    × ArePlaces frames (Some (place + frames_played block.last frames)) more rest

-- 1 for a place that is not where one is due
abbrev pub is_apart : (due : Option ℕ) → (place : ℕ) → ℕ
is_apart None place = 0
is_apart (Some at) place = if place == at then 0 else 1

-- how many blocks are not played right after the one before
abbrev pub gaps : (frames : ℕ) → (due : Option ℕ) → List PassedBlock → List ℕ → ℕ
gaps frames due (block ∷ more) (place ∷ places) =
    is_apart due place + gaps frames (Some (place + frames_played block.last frames)) more places
gaps frames due _ _ = 0

-- each play of these blocks was performed, in time for its place
abbrev pub ArePlayedInTime : List PassedBlock → (places : List ℕ) → List PlayedAt → Type 0
ArePlayedInTime blocks places plays =
    (i : ℕ) (block : PassedBlock) (place : ℕ) → slice_get blocks i ≡ Some block → slice_get places i ≡ Some place →
    (x : PlayedAt) × (slice_get plays i ≡ Some x) × IsInTime x place

-- What is heard of them

-- a sample that was coded in a type
abbrev pub coded : SampleType → ℤ → ℤ
coded ty x = decoded ty (encoded ty x)

-- The sample of a channel in a frame of a block that was passed: what was recorded, as its type codes it. A frame after the last
-- one is the last one again.
abbrev pub passed_sample : SampleType → (channels frames : ℕ) → List ℤ → (frame channel : ℕ) → ℤ
passed_sample ty channels frames sound frame channel =
    gained (coded ty (sample_at channels sound (min frame (frames - 1)) channel)) (pos 0)

-- In what a device emits, each sample of n frames of a block stands at its time, as the output control lets it through, where no
-- other play covers that time.
abbrev pub HasBlock : DeviceState → (count : ℕ) → List ℤ → (channels n place at : ℕ) → List AcceptedPlay → (ℕ → ℕ → ℤ) → Type 0
HasBlock device count emitted channels n place at accepted sample = (frame channel : ℕ) → frame < n → channel < channels →
    device.channels ≡ channels → device.now ≤ place + frame → place + frame < device.now + count →
    IsAlone channels accepted at (place + frame) →
    sample_at channels emitted (place + frame - device.now) channel
    ≡ through_control device.controls.output_on device.controls.output_gain (sample frame channel)

-- What a device emits: the bytes of samples in its type, from its time on, and they have this block.
pub record EmitsBlock (channels n place at : ℕ) (accepted : List AcceptedPlay) (sample : ℕ → ℕ → ℤ) (sent : List ℕ) : Type 0 where
  pub device : DeviceState
  pub count : ℕ
  pub samples : List ℤ
  pub bytes : sent ≡ bytes_of device.ty samples
  pub has : HasBlock device count samples channels n place at accepted sample

-- A sound that was recorded is played from a place on: it has an entry among the plays that the device has accepted, by its
-- start, with one frame more or less by what the relay made of its last frame. And all that the device emits has the samples.
pub record IsSoundPlayed (log : Log) (end : State) (job : PassJob) (device : DeviceInfo) (last : LastFrame) (sound : List ℤ)
    (place : ℕ) : Type 0 where
  pub target : DeviceState
  pub is_there : slice_get end.devices job.to_device ≡ Some target
  pub at : ℕ
  pub entry : AcceptedPlay
  pub is_accepted : slice_get target.accepted at ≡ Some entry
  pub start : entry.start ≡ place
  pub in_time : entry.at ≤ place
  pub mixed : entry.preempt ≡ false
  pub frames : frame_count device.channels entry.samples ≡ frames_played last (pace_from job device).frames
  pub samples : (frame channel : ℕ) → frame < frames_played last (pace_from job device).frames → channel < device.channels →
      sample_at device.channels entry.samples frame channel
      ≡ passed_sample (type_from job device) device.channels (pace_from job device).frames sound frame channel
  pub emits : (front rest : Log) (sent : List ℕ) (done : Bool) → log ≡ front ++ Emitted job.to_device sent done ∷ rest →
      EmitsBlock device.channels (frames_played last (pace_from job device).frames) place at target.accepted
      (passed_sample (type_from job device) device.channels (pace_from job device).frames sound) sent

-- A block was passed: its bytes are those of what the one device held, so many frames after the start; and this sound is played
-- on the other one.
pub record IsBlockPassed (devices : List DeviceState) (log : Log) (end : State) (job : PassJob) (device : DeviceInfo)
    (start before : ℕ) (block : PassedBlock) (place : ℕ) : Type 0 where
  pub recorded : IsBlockRecorded devices (recorder job) device start
      (record { before = before; frames = (pace_from job device).frames }) block.samples
  pub played : IsSoundPlayed log end job device block.last recorded.sound place

-- A relay in two runs

-- a link in a run: the log before it, the state in which it was just opened, its number, and the turns from then on
pub record LinkRun : Type 0 where
  pub log : Log
  pub opened : State
  pub number : ℕ
  pub turns : List Turn

abbrev pub last_state : LinkRun → State
last_state r = end_of r.opened r.turns

-- It is in a run of an abstract server with this configuration. It stays open, and it gave the first of these bytes.
pub record RunsLink (config : List DeviceSpec) (r : LinkRun) (bytes : List ℕ) : Type 0 where
  pub leads : end_state config r.log ≡ Some r.opened
  pub link : LinkState
  pub is_open : (slot_at r.number r.opened).link ≡ Some link
  pub fresh : IsFresh r.opened r.number link
  pub are_turns : AreTurns r.opened r.turns
  pub stays : All (StaysOpen r.number) r.turns
  pub gives : BeginsWith (given_in r.number r.turns) bytes

-- What is known of a relay in two runs. Each of its links performed the first of its requests. Whole times that its plays mean
-- are one block after another, but at as many blocks as it has reported. Each block was passed, if the relay went by the first of
-- what its recording link was told after the setup, and all requests on the other link were performed, each play in time.
pub record IsRelayHeard (from to : LinkRun) (l : LinkState) (job : PassJob) (device : DeviceInfo) (v w : ClientState)
    {did : RelayDeeds} (r : Relayed job device v w did) : Type 0 where
  pub answers : IsAnswered from.number from.opened (last_state from) v.order (from_requests job device r.start.0)
  pub heard : IsHeard to.log to.number to.opened l to.turns (to_requests job device r.blocks)
  pub reported : (places : List ℕ) → ArePlaces (pace_from job device).frames None r.blocks places →
      gaps (pace_from job device).frames None r.blocks places ≡ r.resynced
  pub passed : BeginsWith v.input answers.replies →
      requests_of heard.plays_on.done ≡ to_requests job device r.blocks →
      (places : List ℕ) → ArePlaces (pace_from job device).frames None r.blocks places →
      ArePlayedInTime r.blocks places (plays_in (channels_at to.opened.devices) [] heard.plays_on.done) →
      (i : ℕ) (block : PassedBlock) (place : ℕ) → slice_get r.blocks i ≡ Some block → slice_get places i ≡ Some place →
      IsBlockPassed (last_state from).devices (to.log ++ log_of to.turns) (last_state to) job device r.start.0
      (i * (pace_from job device).frames) block place

-- This holds of each relay that passed all blocks of its job, and any two runs in which its links gave the first of what it sent.
abbrev pub ApassIsHeard : Type 0
ApassIsHeard = (from_config to_config : List DeviceSpec) (from to : LinkRun) → All (λ c. IsListedRate c.rate) to_config →
    (job : PassJob) (device : DeviceInfo) (v w : ClientState) (did : RelayDeeds) (r : Relayed job device v w did) →
    RunsLink from_config from (setup_bytes v.order ++ did.from) →
    (b : RunsLink to_config to (setup_bytes w.order ++ did.to)) →
    channels_at from.opened.devices job.from_device ≡ Some device.channels →
    channels_at to.opened.devices job.to_device ≡ Some device.channels →
    IsChannelCount device.channels → IsGain job.gain → 0 < job.block → v.sequence ≡ 0 →
    IsRelayHeard from to b.link job device v w r
