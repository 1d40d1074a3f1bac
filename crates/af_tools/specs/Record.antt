-- What arecord does: it records block after block, and writes each, raw or in a sound file.
use Rattle.std.specs.Prelude.{◌≡◌, ◌≢◌, ℕ, ◌*◌, ◌%◌, ◌==◌, ◌&&◌, nat_lt, if◌then◌else◌, List, [], ◌∷◌, ◌++◌, length}
use Rattle.std.specs.Prelude.{option_map, unwrap_or, IfSome, Option, None, Some, suc, ◌+◌, ◌/◌, ◌^◌, max, nat_le, unsigned_abs}
use Rattle.std.specs.Prelude.{pos, Bool, true, false, ◌||◌, map, replicate, slice_get}
use Rattle.std.specs.Option.{option_map_or}
use Rattle.af_sample.specs.declared.sample_type.SampleType.{SampleType}
use Rattle.af_sample.specs.declared.sample_type.SampleType.TheVariants as ty
use Rattle.af_sample.specs.SampleTypes.{frame_bytes, code_of}
use Rattle.af_sound.specs.declared.head.Coding.{Coding}
use Rattle.af_sound.specs.declared.head.Coding.TheVariants as coding
use Rattle.af_sound.specs.declared.head.SoundForm.{SoundForm}
use Rattle.af_sound.specs.declared.head.SoundForm.TheVariants.{Au, Wave}
use Rattle.af_sound.specs.declared.head.SoundHead.{SoundHead}
use Rattle.af_sound.specs.Fields.{unknown_length}
use Rattle.af_sound.specs.Served.{filed_bytes}
use Rattle.af_sound.specs.Written.{written_head}
use Rattle.af_request.specs.declared.reply.DeviceInfo.{DeviceInfo}
use Rattle.af_cli.specs.declared.job.RecordJob.{RecordJob}
use Rattle.af_tools.specs.declared.record.RecordedSound.{RecordedSound}
use Rattle.af_tools.specs.declared.record.Recording.{Recording}
use Rattle.af_tools.specs.declared.record.TakenBlock.{TakenBlock}
use Rattle.af_tools.specs.Sounds.{served_type}
use Rattle.af_sample.specs.Samples.{samples}
use Rattle.af_request.specs.Asked.{Asked, create_ac, free_ac, record_run}
use Rattle.af_lib.specs.Calls.{as_done, as_recorded, ConnState}
use Rattle.af_cli.specs.Lengths.{at_rate}
use Rattle.af_cli.specs.Sizes.{block_frames}
use Rattle.af_toolkit.specs.Parts.{goes_on, has_value}
use Rattle.af_toolkit.specs.Lost.{finish_by, had_left}
use Rattle.af_toolkit.specs.Trace.{Trace, ClientState, ends, refused, with_job_device}
use Rattle.af_toolkit.specs.ToolParts.{ToolPart, asks, begins, doing, trace_of, writes}
use Rattle.af_io.specs.Observed.{Appended}
use Rattle.af_toolkit.specs.declared.end.ToolEnd.{ToolEnd}
use Rattle.af_toolkit.specs.Ends.{client_of, has_done_all}

-- the type that is recorded: in a file, samples of 32 bits become samples of 16
abbrev pub recorded_type : Option SoundForm → SampleType → SampleType
recorded_type (Some form) ty.Mu255 = ty.Mu255
recorded_type (Some form) ty.Alaw = ty.Alaw
recorded_type (Some form) ty.Lin16 = ty.Lin16
recorded_type (Some form) ty.Lin32 = ty.Lin16
recorded_type None ty = ty

-- the coding of a sample type in a file: 16 bits have the most significant byte first in an .au file, and last in a WAVE file
abbrev pub coding_in : SoundForm → SampleType → Coding
coding_in form ty.Mu255 = coding.Mu255
coding_in form ty.Alaw = coding.Alaw
coding_in Au ty.Lin16 = coding.Lin16Big
coding_in Au ty.Lin32 = coding.Lin16Big
coding_in Wave ty.Lin16 = coding.Lin16Little
coding_in Wave ty.Lin32 = coding.Lin16Little

-- samples as they are written: as a file codes them, or raw
abbrev pub as_filed : Option Coding → List ℕ → List ℕ
as_filed coding bytes = option_map_or (λ c. filed_bytes c bytes) coding bytes

-- the samples of a type are written in a coding that a server takes as this type
abbrev pub IsFiledAs : Option Coding → SampleType → Type 0
IsFiledAs filed ty = IfSome filed (λ c. (ty ≡ served_type c) × (c ≢ coding.U8))

-- what a job records on a device, and how it is written
abbrev pub recorded_sound : RecordJob → DeviceInfo → RecordedSound
recorded_sound job device =
    let ty = recorded_type job.form (unwrap_or job.ty device.ty) in
    record {
      ty = ty;
      coding = option_map (λ form. coding_in form ty) job.form;
      channels = device.channels;
      horizon = device.horizon;
    }

-- the length that a header states: that of all frames, if quiet cannot end the recording and a header can state it
abbrev pub stated_length : RecordJob → (frame : ℕ) → Option ℕ
stated_length job frame =
    if (job.stop_peak == 0) && nat_lt (job.frames * frame) unknown_length then Some (job.frames * frame) else None

-- the header of a file
abbrev pub file_head : SoundForm → RecordJob → DeviceInfo → SoundHead
file_head form job device =
    let ty = (recorded_sound job device).ty in
    record {
      coding = coding_in form ty;
      rate = device.rate;
      channels = device.channels;
      length = stated_length job (frame_bytes ty device.channels);
    }

-- what is written before the sound: the header of a file
abbrev pub front_of_recording : RecordJob → DeviceInfo → List ℕ
front_of_recording job device = option_map_or (λ form. written_head form (file_head form job device)) job.form []

-- and after its n bytes: a byte that makes the sound of a WAVE file even
abbrev pub pad_after : Option SoundForm → ℕ → List ℕ
pad_after (Some Wave) size = if size % 2 == 1 then 0 ∷ [] else []
pad_after (Some Au) size = []
pad_after None size = []

-- the recording of some samples: a sound file of them, or raw
abbrev pub recording_of : RecordJob → DeviceInfo → List ℕ → List ℕ
recording_of job device samples =
    front_of_recording job device ++ (as_filed (recorded_sound job device).coding samples ++ pad_after job.form (length samples))

-- a job of the same samples that writes them raw
abbrev pub as_raw : RecordJob → DeviceInfo → RecordJob
as_raw job device = record (job) { form = None; ty = Some (recorded_sound job device).ty }

-- how many frames each block has: so many, and the last one what is left of all
unfoldable pub block_lengths : ℕ → ℕ → List ℕ
block_lengths block frames = replicate (frames / block) block ++ (if frames % block == 0 then [] else frames % block ∷ [])

-- the greatest of some numbers, or 0
abbrev pub greatest_of : List ℕ → ℕ
greatest_of [] = 0
greatest_of (x ∷ xs) = max x (greatest_of xs)

-- the peak of a block: the greatest absolute value of its samples, in any channel
unfoldable pub peak : SampleType → List ℕ → ℕ
peak ty bytes = greatest_of (map unsigned_abs (samples ty bytes))

-- how many of these peaks, the latest first, are below a limit before the first that is not
abbrev pub row_below : ℕ → List ℕ → ℕ
row_below limit [] = 0
row_below limit (p ∷ peaks) = if nat_lt p limit then suc (row_below limit peaks) else 0

-- a row of so many quiet blocks has come to its end
abbrev pub ends_row : RecordJob → List ℕ → Bool
ends_row job peaks = nat_le job.stop_blocks (row_below job.stop_peak peaks)

-- nothing was recorded yet
abbrev pub nothing_recorded : Recording
nothing_recorded = record { frames = 0; lost = false }

-- a block of so many frames more was recorded
abbrev pub recording_on : Recording → (frames : ℕ) → TakenBlock → Recording
recording_on before frames block = record { frames = before.frames + frames; lost = before.lost || block.lost }

-- the bytes of a frame of a sound, as it is recorded
abbrev pub recorded_frame : RecordedSound → ℕ
recorded_frame sound = frame_bytes sound.ty sound.channels

-- a block of n bytes is recorded and written: its peak is the value, and whether frames of it had left the server
abbrev pub takes_block : RecordedSound → (at size : ℕ) → ToolPart TakenBlock
takes_block sound at size =
    goes_on doing (asks (record_run true 1 at size) (as_recorded true size)) (λ r.
    goes_on doing (writes (as_filed sound.coding r.samples)) (λ _.
    has_value doing (record { peak = peak sound.ty r.samples; lost = had_left sound.horizon at r.time.0 })))

-- blocks of these lengths are recorded and written, until a row of quiet ones: how much there was in all
unfoldable pub records : RecordJob → RecordedSound → (at : ℕ) (before : Recording) (peaks : List ℕ) → List ℕ →
    ToolPart Recording
records job sound at before peaks [] = has_value doing before
records job sound at before peaks (n ∷ more) = goes_on doing (takes_block sound at (n * recorded_frame sound)) (λ block.
    if ends_row job (block.peak ∷ peaks) then has_value doing (recording_on before n block)
    else records job sound ((at + n) % 2 ^ 32) (recording_on before n block) (block.peak ∷ peaks) more)

-- all blocks of a job
abbrev pub records_all : RecordJob → RecordedSound → (start : ℕ) → ToolPart Recording
records_all job sound start =
    records job sound start nothing_recorded [] (block_lengths (block_frames job.block (recorded_frame sound)) job.frames)

-- the context of a job on a device
abbrev pub record_context : RecordJob → DeviceInfo → Asked
record_context job device = create_ac job.device 1 (code_of (recorded_sound job device).ty) device.channels 0 (pos 0) job.gain

-- the blocks are recorded from a start on, between the header of a file and the byte that makes the sound of a WAVE file even
abbrev pub writes_recording : RecordJob → DeviceInfo → (start : ℕ) → ToolPart Recording
writes_recording job device start =
    let sound = recorded_sound job device in
    goes_on doing (writes (front_of_recording job device)) (λ _.
    goes_on doing (records_all job sound start) (λ recording.
    goes_on doing (writes (pad_after job.form (recording.frames * recorded_frame sound))) (λ _.
    has_value doing recording)))

-- a context is made, all is recorded from the stated start or else from the device's time on, and the context is freed
abbrev pub records_on : RecordJob → DeviceInfo → ToolPart Recording
records_on job device =
    goes_on doing (begins (record_context job device) job.device) (λ now.
    goes_on doing (writes_recording job device (unwrap_or job.time now.0)) (λ recording.
    goes_on doing (asks (free_ac 1) as_done) (λ _. has_value doing recording)))

-- the trace of arecord, by the devices of the server and what the link gives; seconds are those of the device; where it is
-- strict, its end says if frames had left the server
unfoldable pub arecord_trace : RecordJob → List DeviceInfo → ClientState → Trace
arecord_trace job devices w =
    with_job_device job.device devices (λ device.
    trace_of refused (records_on (at_rate device.rate job) device w) (λ recording.
    ends (finish_by job.strict recording.lost)))

-- A job was done: it sent the requests of a raw recording, and wrote that recording, as a sound file if it writes one, whose
-- header has the length in frames of the device.
pub record IsRecorded (job : RecordJob) (devices : List DeviceInfo) (w : ClientState)
    (sent sent' held held' : Option (List ℕ)) : Type 0 where
  pub device : DeviceInfo
  pub is_there : slice_get devices job.device ≡ Some device
  pub samples : List ℕ
  pub are_raw : samples ≡ (arecord_trace (as_raw job device) devices w).output
  pub link : Appended sent (arecord_trace (as_raw job device) devices w).sends sent'
  pub sink : Appended held (recording_of (at_rate device.rate job) device samples) held'

-- arecord, if it did all, over a connection whose link is observable
abbrev pub LeavesRecording : {L K : Type 0} → (left sent : L → Option (List ℕ)) → (held : K → Option (List ℕ)) → RecordJob →
    ToolEnd → (conn conn' : ConnState L) → (sink sink' : K) → Type 0
LeavesRecording left sent held job how conn conn' sink sink' =
    (input : List ℕ) → left conn.link ≡ Some input → has_done_all how ≡ true →
    IsRecorded job conn.devices (client_of conn input) (sent conn.link) (sent conn'.link) (held sink) (held sink')
