-- From aplay to the loudspeaker: what leaves the device of what aplay sends.
use Rattle.std.specs.Prelude.{◌≡◌, ◌≤◌, ◌<◌, ℕ, ◌+◌, ◌-◌, ◌/◌, ◌%◌, ◌^◌, Bool, true, false, ℤ, List, [], ◌∷◌, ◌++◌, length, flat_map, slice_get, IfSome}
use Rattle.std.specs.List.{All}
use Rattle.std.specs.declared.option.Option.{Option}
use Rattle.std.specs.declared.option.Option.TheVariants.{None, Some}
use Rattle.af_sample.specs.declared.sample_type.SampleType.{SampleType}
use Rattle.af_sample.specs.Channels.{IsChannelCount}
use Rattle.af_sample.specs.Gains.{IsGain}
use Rattle.af_sample.specs.Heard.{AcceptedPlay, covers}
use Rattle.af_sample.specs.Rates.{IsListedRate}
use Rattle.af_sample.specs.SampleTypes.{frame_bytes}
use Rattle.af_sample.specs.Samples.{bytes_of}
use Rattle.af_wire.specs.declared.order.Order.{Order}
use Rattle.af_wire.specs.Begins.{BeginsWith}
use Rattle.af_wire.specs.Front.{setup_bytes}
use Rattle.af_request.specs.Asked.{Asked, free_ac, get_time, play_run, record_run}
use Rattle.af_request.specs.declared.reply.DeviceInfo.{DeviceInfo}
use Rattle.af_world.specs.declared.happening.Happening.TheVariants.{Emitted}
use Rattle.af_world.specs.declared.script.DeviceSpec.{DeviceSpec}
use Rattle.af_world.specs.Log.{Log}
use Rattle.af_cli.specs.declared.job.PlayJob.{PlayJob}
use Rattle.af_toolkit.specs.Trace.{ClientState}
use Rattle.af_toolkit.specs.declared.end.ToolEnd.{ToolEnd}
use Rattle.af_tools.specs.declared.pace.Pace.{Pace}
use Rattle.af_tools.specs.Leaving.{drained}
use Rattle.af_tools.specs.Pacing.{awaited}
use Rattle.af_tools.specs.Play.{Block, IsEntryOf, IsPlayed, TimedBlock, course_before, gained_samples, pace_from, play_context, played_frames, played_whole, sample_in, sent_blocks}
use Rattle.af_model.specs.State.{DeviceState, LinkState, State, slot_at}
use Rattle.af_model.specs.Controls.{through_control}
use Rattle.af_model.specs.Perform.{channels_at}
use Rattle.af_model.specs.Run.{end_state}
use Rattle.af_end_to_end.specs.Playing.{AreTurns, PlayedAt, StaysOpen, Turn, end_of, given_in, plays_in, requests_of}
use Rattle.af_end_to_end.specs.Sounding.{IsHeard, IsInTime, IsNew, log_of, sample_at}

-- The requests of aplay

-- the frame that has to go by before something is sent is waited for, if there is one
abbrev pub waiting_requests : (frame : ℕ) → Option ℕ → List Asked
waiting_requests frame None = []
waiting_requests frame (Some at) = record_run true 1 at frame ∷ []

-- a block is played at its time
abbrev pub block_play : Pace → Block → Asked
block_play pace block = play_run false 1 ((pace.start.0 + block.before) % 2 ^ 32) block.bytes

abbrev pub block_requests : Pace → TimedBlock → List Asked
block_requests pace timed = waiting_requests pace.frame (awaited pace (course_before timed)) ++ block_play pace timed.block ∷ []

-- a context is made, the time asked for, the blocks are played, the last frame is waited for, and the context is freed
abbrev pub aplay_requests : PlayJob → SampleType → (channels : ℕ) → Pace → List TimedBlock → (frames : ℕ) → List Asked
aplay_requests job ty channels pace timed frames =
    play_context job ty channels ∷ get_time job.device
    ∷ (flat_map (block_requests pace) timed
    ++ (waiting_requests pace.frame (drained job.drain pace.start.0 frames) ++ free_ac 1 ∷ []))

-- A job that is done

-- a job of aplay: the byte order of its link, the device that it was told of, the samples of its source in their type, its start,
-- and the blocks that it sent
pub record DoneJob : Type 0 where
  pub order : Order
  pub job : PlayJob
  pub device : DeviceInfo
  pub ty : SampleType
  pub samples : List ℕ
  pub start : ℕ
  pub blocks : List TimedBlock

-- the job that was played so
abbrev pub done_job : {job : PlayJob} {devices : List DeviceInfo} {bytes : List ℕ} {w : ClientState} {how : ToolEnd}
    {sent sent' held held' : Option (List ℕ)} → IsPlayed job devices bytes w how sent sent' held held' → DoneJob
done_job {job} {w = w} p = record {
  order = w.order;
  job = job;
  device = p.device;
  ty = p.ty;
  samples = p.samples;
  start = p.start;
  blocks = p.blocks;
}

abbrev pub pace_of : DoneJob → Pace
pace_of j = pace_from j.job j.device.rate j.ty j.device.channels j.start

-- how many frames it has
abbrev pub frames_of : DoneJob → ℕ
frames_of j = length j.samples / frame_bytes j.ty j.device.channels

abbrev pub requests_of_job : DoneJob → List Asked
requests_of_job j = aplay_requests j.job j.ty j.device.channels (pace_of j) j.blocks (frames_of j)

-- its blocks, each with the frames before it
abbrev pub blocks_of : DoneJob → List Block
blocks_of j = sent_blocks j.ty j.device.channels (played_frames j.job j.device.rate j.ty j.device.channels) j.samples

-- what it sent: the setup, and then these requests
abbrev pub sent_by : DoneJob → List ℕ
sent_by j =
    setup_bytes j.order ++ played_whole j.order j.job j.ty j.device.channels (pace_of j) j.blocks (frames_of j)

-- What is heard of it

-- each play of these blocks was performed, in time for its place from a whole time on
abbrev pub ArePlayedInTime : List Block → (whole : ℕ) → List PlayedAt → Type 0
ArePlayedInTime blocks whole plays = (i : ℕ) (block : Block) → slice_get blocks i ≡ Some block →
    (x : PlayedAt) × (slice_get plays i ≡ Some x) × IsInTime x (whole + block.before)

-- no other accepted play covers a time of n frames
abbrev pub HasNoOther : (channels whole frames blocks : ℕ) → (place : ℕ → ℕ) → List AcceptedPlay → Type 0
HasNoOther channels whole frames blocks place accepted = (j i : ℕ) (entry : AcceptedPlay) → slice_get accepted j ≡ Some entry →
    i < frames → covers channels entry (whole + i) ≡ true → (k : ℕ) × (k < blocks) × (j ≡ place k)

-- In what a device emits, each sample of a sound stands at its time, as the output control lets it through.
abbrev pub HasSound : DeviceState → (count : ℕ) → List ℤ → (channels whole frames : ℕ) → List ℤ → Type 0
HasSound device count emitted channels whole frames sound = (i channel : ℕ) → i < frames → channel < channels →
    device.channels ≡ channels → device.now ≤ whole + i → whole + i < device.now + count →
    sample_at channels emitted (whole + i - device.now) channel
    ≡ through_control device.controls.output_on device.controls.output_gain (sample_in channels sound i channel)

-- What a device emits: the bytes of samples in its type, from its time on, and they have this sound.
pub record EmitsSound (channels whole frames : ℕ) (sound : List ℤ) (sent : List ℕ) : Type 0 where
  pub device : DeviceState
  pub count : ℕ
  pub samples : List ℤ
  pub bytes : sent ≡ bytes_of device.ty samples
  pub has : HasSound device count samples channels whole frames sound

-- A job from a whole time on: each block has an entry of its own among the plays that a device accepted, at its time and by
-- then, under the gain of the job. And if no other entry covers these times, all that the device emits has the samples of the
-- source.
pub record SoundsAt (log : Log) (device : DeviceState) (j : DoneJob) (whole : ℕ) : Type 0 where
  pub place : ℕ → ℕ
  pub each : (i : ℕ) (block : Block) → slice_get (blocks_of j) i ≡ Some block →
      (entry : AcceptedPlay) × (slice_get device.accepted (place i) ≡ Some entry)
      × IsEntryOf j.ty j.job.gain whole block entry
  pub emits : HasNoOther j.device.channels whole (frames_of j) (length (blocks_of j)) place device.accepted →
      (front rest : Log) (sent : List ℕ) (done : Bool) → log ≡ front ++ Emitted j.job.device sent done ∷ rest →
      EmitsSound j.device.channels whole (frames_of j) (gained_samples j.ty j.job.gain j.samples) sent

-- What is known of a job in a run: its link performed the first of its requests. And if it performed all, each play in time from
-- a whole time on that the start means, the job sounds from then on.
pub record IsJobHeard (log : Log) (k : ℕ) (s : State) (l : LinkState) (turns : List Turn) (j : DoneJob) : Type 0 where
  pub heard : IsHeard log k s l turns (requests_of_job j)
  pub sounds : (whole : ℕ) (device : DeviceState) → whole % 2 ^ 32 ≡ j.start →
      slice_get (end_of s turns).devices j.job.device ≡ Some device →
      requests_of heard.plays_on.done ≡ requests_of_job j →
      ArePlayedInTime (blocks_of j) whole (plays_in (channels_at s.devices) [] heard.plays_on.done) →
      SoundsAt (log ++ log_of turns) device j whole

-- This holds of each job of aplay, and each run in which its link gave the first of what it sent.
abbrev pub AplayIsHeard : List DeviceSpec → Log → Type 0
AplayIsHeard config log =
    All (λ c. IsListedRate c.rate) config →
    IfSome (end_state config log)
    (λ s. (k : ℕ) (l : LinkState) (turns : List Turn) → (slot_at k s).link ≡ Some l → IsNew l → AreTurns s turns →
    All (StaysOpen k) turns →
    (job : PlayJob) (devices : List DeviceInfo) (bytes : List ℕ) (w : ClientState) (how : ToolEnd)
    (sent sent' held held' : Option (List ℕ))
    (p : IsPlayed job devices bytes w how sent sent' held held') → channels_at s.devices job.device ≡ Some p.device.channels →
    IsChannelCount p.device.channels → IsGain job.gain →
    BeginsWith (given_in k turns) (sent_by (done_job p)) → IsJobHeard log k s l turns (done_job p))
