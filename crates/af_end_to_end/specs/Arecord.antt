-- From a device to what arecord writes.
use Rattle.std.specs.Prelude.{◌≡◌, ◌≤◌, ◌<◌, ℕ, ◌+◌, ◌*◌, ◌%◌, ◌^◌, true, ℤ, List, [], ◌∷◌, ◌++◌, length, map, slice_get, IfSome, Some}
use Rattle.std.specs.List.{All}
use Rattle.af_time.specs.DeviceTime.{IsMeant}
use Rattle.af_sample.specs.Channels.{IsChannelCount}
use Rattle.af_sample.specs.Gains.{IsGain, gained}
use Rattle.af_sample.specs.Samples.{bytes_of}
use Rattle.af_sample.specs.Window.{recorded_sample}
use Rattle.af_wire.specs.Begins.{BeginsWith}
use Rattle.af_wire.specs.Front.{setup_bytes}
use Rattle.af_request.specs.Asked.{Asked, free_ac, get_time, record_run}
use Rattle.af_request.specs.declared.reply.DeviceInfo.{DeviceInfo}
use Rattle.af_world.specs.declared.script.DeviceSpec.{DeviceSpec}
use Rattle.af_world.specs.Log.{Log}
use Rattle.af_cli.specs.declared.job.RecordJob.{RecordJob}
use Rattle.af_cli.specs.Lengths.{at_rate}
use Rattle.af_toolkit.specs.Trace.{ClientState, tool_end}
use Rattle.af_toolkit.specs.Ends.{has_done_all}
use Rattle.af_tools.specs.declared.record.RecordedSound.{RecordedSound}
use Rattle.af_tools.specs.Record.{arecord_trace, as_filed, front_of_recording, record_context, recorded_frame, recorded_sound}
use Rattle.af_tools.specs.RecordSteps.{job_lengths}
use Rattle.af_model.specs.State.{DeviceState, LinkState, State, slot_at}
use Rattle.af_model.specs.Reply.{horizon_of}
use Rattle.af_model.specs.Perform.{channels_at}
use Rattle.af_model.specs.Run.{end_state}
use Rattle.af_end_to_end.specs.Playing.{AreTurns, StaysOpen, Turn, end_of, given_in}
use Rattle.af_end_to_end.specs.Sounding.{sample_at}
use Rattle.af_end_to_end.specs.Told.{IsAnswered, IsFresh, WasSo}

-- The requests of arecord

-- a block of a recording: how many frames come before it, and how many it has
pub record Stretch : Type 0 where
  pub before : ℕ
  pub frames : ℕ

-- blocks of these lengths, one after another
abbrev pub stretches : (before : ℕ) → List ℕ → List Stretch
stretches before [] = []
stretches before (frames ∷ more) = record { before = before; frames = frames } ∷ stretches (before + frames) more

-- a block is recorded at its time
abbrev pub block_record : RecordedSound → (start : ℕ) → Stretch → Asked
block_record sound start block =
    record_run true 1 ((start + block.before) % 2 ^ 32) (block.frames * recorded_frame sound)

-- a context is made, the time asked for, the blocks are recorded, and the context is freed
abbrev pub arecord_requests : RecordJob → DeviceInfo → (start : ℕ) → List Stretch → List Asked
arecord_requests job device start blocks =
    record_context job device ∷ get_time job.device
    ∷ (map (block_record (recorded_sound job device) start) blocks ++ free_ac 1 ∷ [])

-- What is recorded

-- What a device held at a time, so many frames from it on: in each channel what it had captured then, silence before its begin
-- and further back than four seconds, under a gain.
abbrev pub HasHeld : DeviceState → (gain : ℤ) → (channels time frames : ℕ) → List ℤ → Type 0
HasHeld device gain channels time frames sound = (i channel : ℕ) → i < frames → channel < channels →
    sample_at channels sound i channel
    ≡ gained (recorded_sample channels device.captured device.begin device.now (horizon_of device) (time + i) channel) gain

-- A block was recorded: its Record was performed when the device had a time, and means one whole time by that. It was answered
-- by the device as it was then or later, and its bytes are those of what the device held.
pub record IsBlockRecorded (devices : List DeviceState) (job : RecordJob) (device : DeviceInfo) (start : ℕ) (block : Stretch)
    (bytes : List ℕ) : Type 0 where
  pub performed : ℕ
  pub time : ℕ
  pub meant : IsMeant performed ((start + block.before) % 2 ^ 32) time
  pub past : DeviceState
  pub was_so : WasSo devices job.device past
  pub later : performed ≤ past.now
  pub sound : List ℤ
  pub size : length sound ≡ device.channels * block.frames
  pub is : bytes ≡ bytes_of (recorded_sound job device).ty sound
  pub held : HasHeld past job.gain device.channels time block.frames sound

-- each of these blocks was recorded, and these are their bytes, one after another, as a file codes them
abbrev pub AreRecorded : List DeviceState → RecordJob → DeviceInfo → (start : ℕ) → List Stretch → List ℕ → Type 0
AreRecorded devices job device start [] written = written ≡ []
AreRecorded devices job device start (block ∷ more) written = (bytes : List ℕ) × (rest : List ℕ)
    × (written ≡ as_filed (recorded_sound job device).coding bytes ++ rest)
    × IsBlockRecorded devices job device start block bytes × AreRecorded devices job device start more rest

-- What was written: the header of a file, if there is one, the sound of these blocks, and a pad.
pub record IsSoundWritten (devices : List DeviceState) (job : RecordJob) (device : DeviceInfo) (start : ℕ)
    (blocks : List Stretch) (output : List ℕ) : Type 0 where
  pub sound : List ℕ
  pub pad : List ℕ
  pub whole : output ≡ front_of_recording job device ++ (sound ++ pad)
  pub recorded : AreRecorded devices job device start blocks sound

-- A job that is done

-- What is known of a job in a run: from some start on it recorded the first blocks of its lengths, all unless quiet ended it; its
-- link performed the first of its requests; and if it went by the first of what this link was told after its setup, the sound
-- that it wrote is what the device held at the times of these blocks.
pub record IsJobRecorded (k : ℕ) (s end : State) (job : RecordJob) (device : DeviceInfo) (w : ClientState)
    (output : List ℕ) : Type 0 where
  pub start : ℕ
  pub stated : IfSome job.time (λ time. start ≡ time)
  pub lengths : List ℕ
  pub others : List ℕ
  pub blocks : job_lengths job device ≡ lengths ++ others
  pub answers : IsAnswered k s end w.order (arecord_requests job device start (stretches 0 lengths))
  pub recorded : BeginsWith w.input answers.replies →
      IsSoundWritten end.devices job device start (stretches 0 lengths) output

-- This holds of each job of arecord that is done, and each run in which its link gave the first of what it sent.
abbrev pub ArecordIsHeld : List DeviceSpec → Log → Type 0
ArecordIsHeld config log =
    IfSome (end_state config log)
    (λ s. (k : ℕ) (l : LinkState) (turns : List Turn) → (slot_at k s).link ≡ Some l → IsFresh s k l → AreTurns s turns →
    All (StaysOpen k) turns →
    (job : RecordJob) (devices : List DeviceInfo) (device : DeviceInfo) (w : ClientState) →
    slice_get devices job.device ≡ Some device → channels_at s.devices job.device ≡ Some device.channels →
    IsChannelCount device.channels → IsGain job.gain → 0 < job.block → w.sequence ≡ 0 →
    has_done_all (tool_end (arecord_trace job devices w).finish) ≡ true →
    BeginsWith (given_in k turns) (setup_bytes w.order ++ (arecord_trace job devices w).sends) →
    IsJobRecorded k s (end_of s turns) (at_rate device.rate job) device w (arecord_trace job devices w).output)
