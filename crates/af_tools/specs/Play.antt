-- What aplay does: the bytes of its source are cut into blocks, and each block is played at its time. And what is heard of it.
use Rattle.std.specs.Prelude.{◌≤◌, ℕ, zero, suc, ◌+◌, ◌*◌, ◌/◌, ◌%◌, ◌^◌, nat_lt, if◌then◌else◌, pos, Option, Some, false}
use Rattle.std.specs.Prelude.{List, [], ◌∷◌, ◌++◌, length, take, drop, codes, decimal, ◌≡◌, ◌<◌, true, ℤ, map, slice_get}
use Rattle.std.specs.Prelude.{⊤, slice_index_or, Ok, flat_map, unwrap_or, Bool, ◌||◌}
use Rattle.af_time.specs.DeviceTime.{frames_lasting}
use Rattle.af_sample.specs.declared.sample_type.SampleType.{SampleType}
use Rattle.af_sample.specs.Channels.{IsChannelCount}
use Rattle.af_sample.specs.SampleTypes.{code_of, frame_bytes}
use Rattle.af_sound.specs.declared.head.Coding.{Coding}
use Rattle.af_request.specs.declared.reply.DeviceInfo.{DeviceInfo}
use Rattle.af_request.specs.Asked.{Asked, create_ac, play_run, get_time}
use Rattle.af_request.specs.Fields.{flag_byte}
use Rattle.af_lib.specs.Calls.{as_done, as_time}
use Rattle.af_cli.specs.declared.job.PlayJob.{PlayJob}
use Rattle.af_cli.specs.Sizes.{block_frames, greatest_block}
use Rattle.af_toolkit.specs.Parts.{Part, goes_on, has_value, part_among, stops}
use Rattle.af_request.specs.Answer.{Answer}
use Rattle.af_lib.specs.declared.fault.ConnFault.{ConnFault}
use Rattle.af_toolkit.specs.Trace.{Trace, ClientState, Finish, after_reply, answer_on}
use Rattle.af_toolkit.specs.Trace.{ends, refused, tool_end, too_long, trace_by, with_job_device, writes_first}
use Rattle.af_toolkit.specs.Lost.{finish_by, is_late}
use Rattle.af_toolkit.specs.declared.end.ToolEnd.{ToolEnd}
use Rattle.af_toolkit.specs.ToolParts.{ToolDeeds, ToolPart, asks, doing, trace_of}
use Rattle.af_tools.specs.Leaving.{drained, leaves, leaving_bytes}
use Rattle.af_tools.specs.Pacing.{ahead_frames, awaited, block_time, course_from, course_on, once_past, paced_block, waiting_bytes}
use Rattle.af_tools.specs.declared.pace.Course.{Course}
use Rattle.af_tools.specs.declared.pace.Pace.{Pace}
use Rattle.af_tools.specs.declared.player.Played.{Played}
use Rattle.af_tools.specs.declared.sound.SourceSound.{SourceSound}
use Rattle.af_tools.specs.Sounds.{most_bytes, as_served, reads_sound, source_width, stated_part, GivesSamples}
use Rattle.af_sample.specs.Samples.{samples}
use Rattle.af_sample.specs.Gains.{gained}
use Rattle.af_sample.specs.Heard.{covers, heard_sample, AcceptedPlay}
use Rattle.af_time.specs.declared.DevTime.{DevTime}
use Rattle.af_io.specs.Observed.{Appended}
use Rattle.af_wire.specs.declared.order.Order.{Order}
use Rattle.af_request.specs.Requests.{request_bytes}

-- a list cut into blocks of n bytes; the last one has the rest
abbrev pub cut_blocks : ℕ → ℕ → List ℕ → List (List ℕ)
cut_blocks zero size bytes = []
cut_blocks (suc n) size [] = []
cut_blocks (suc n) size (b ∷ bytes) = take size (b ∷ bytes) ∷ cut_blocks n size (drop size (b ∷ bytes))

unfoldable pub blocks : ℕ → List ℕ → List (List ℕ)
blocks size bytes = cut_blocks (length bytes) size bytes

-- how many frames of n bytes a block has, and the bytes of these
abbrev pub frames_in : ℕ → List ℕ → ℕ
frames_in width block = length block / width

abbrev pub whole_frames : ℕ → List ℕ → List ℕ
whole_frames width block = take (frames_in width block * width) block

-- why playing ends early: a request was answered with a fault, or the source gave too much
pub data PlayFault : Type 0 where
  of_reply : (fault : ConnFault) → PlayFault
  of_source : PlayFault

abbrev pub play_finish : PlayFault → Finish
play_finish (of_reply fault) = refused fault
play_finish of_source = too_long

abbrev pub PlayPart : Type 0 → Type 0
PlayPart X = Part ClientState ToolDeeds PlayFault X

-- a request is sent, and its answer is the value
abbrev pub play_asks : {X : Type 0} → Asked → (Answer → Option X) → PlayPart X
play_asks asked value_of = part_among of_reply (asks asked value_of)

-- a block is played at its time, once the device is near enough to that
abbrev pub plays_block : Pace → Course → (samples : List ℕ) → ToolPart DevTime
plays_block pace course samples = once_past pace.frame (awaited pace course)
    (asks (play_run false 1 (block_time pace.start.0 course.frames) samples) as_time)

-- each block is played after those before it, as a server takes it, until one has no whole frame or the source gave too much
unfoldable pub plays : Option Coding → (width : ℕ) → Pace → Course → (given : ℕ) → List (List ℕ) → PlayPart Course
plays coding width pace course given [] = has_value doing course
plays coding width pace course given (block ∷ more) =
    if nat_lt most_bytes (given + length block) then stops doing of_source
    else if nat_lt 0 (frames_in width block)
    then goes_on doing
    (part_among of_reply (plays_block pace course (as_served coding (whole_frames width block)))) (λ told.
    plays coding width pace (course_on pace course (frames_in width block) told) (given + length block) more)
    else has_value doing course

-- the blocks of a sound, each of n frames, are played at a pace; the header of a file was read before, and the device's time told
unfoldable pub plays_sound : SourceSound → (frames : ℕ) → Pace → (told : DevTime) → List ℕ → PlayPart Course
plays_sound sound frames pace told bytes =
    let width = source_width sound.coding sound.ty sound.channels in
    plays sound.coding width pace (course_from told) sound.head (blocks (frames * width) (stated_part sound.length bytes))

-- a block of n frames that fits one Play: at least one frame, and at most the bytes of the greatest block
pub record IsBlock (ty : SampleType) (channels frames : ℕ) : Type 0 where
  pub count : IsChannelCount channels
  pub some : 1 ≤ frames
  pub fits : frames * frame_bytes ty channels ≤ greatest_block

-- the start, if it is stated, or else n frames after the device's time
abbrev pub start_at : Option ℕ → ℕ → ℕ → ℕ
start_at time now lead = unwrap_or time ((now + lead) % 2 ^ 32)

-- what aplay writes for n frames from a start
unfoldable pub played_text : ℕ → ℕ → List ℕ
played_text sent start = codes "played " ++ decimal sent ++ codes " at " ++ decimal start ++ codes "\n"

-- the context of a job for samples of a type, with so many channels
abbrev pub play_context : PlayJob → SampleType → (channels : ℕ) → Asked
play_context job ty channels = create_ac job.device 1 (code_of ty) channels (flag_byte job.preempt) job.gain (pos 0)

-- the frames of a block of such samples, on a device of this rate
abbrev pub played_frames : PlayJob → (rate : ℕ) → SampleType → (channels : ℕ) → ℕ
played_frames job rate ty channels = block_frames (paced_block (ahead_frames rate job) job.block) (frame_bytes ty channels)

-- when the blocks of a job are sent, on a device of this rate, from a start on
abbrev pub pace_from : PlayJob → (rate : ℕ) → SampleType → (channels start : ℕ) → Pace
pace_from job rate ty channels start =
    record { start = record { 0 = start }; ahead = ahead_frames rate job; frame = frame_bytes ty channels }

-- the same where the device told this time
abbrev pub job_pace : PlayJob → (rate : ℕ) → SampleType → (channels : ℕ) → (now : DevTime) → Pace
job_pace job rate ty channels now =
    pace_from job rate ty channels (start_at job.time now.0 (frames_lasting rate job.lead))

-- a context is made, the device's time asked for, the blocks played, the last frame waited for where the job asks for it, and the
-- context freed: how many frames, from when on, and whether some were late
abbrev pub plays_on : PlayJob → SourceSound → DeviceInfo → List ℕ → PlayPart Played
plays_on job sound device bytes =
    goes_on doing (play_asks (play_context job sound.ty sound.channels) as_done) (λ _.
    goes_on doing (play_asks (get_time job.device) as_time) (λ now.
    let pace = job_pace job device.rate sound.ty sound.channels now in
    goes_on doing (plays_sound sound (played_frames job device.rate sound.ty sound.channels) pace now bytes) (λ course.
    goes_on doing (part_among of_reply (leaves pace.frame (drained job.drain pace.start.0 course.frames))) (λ _.
    has_value doing (record { frames = course.frames; start = pace.start; late = course.late })))))

-- the trace of aplay: it reads a header, if the source has one, plays all, and then writes how much, and from when on; where it
-- is strict, its end says if frames were late
unfoldable pub aplay_trace : PlayJob → List DeviceInfo → List ℕ → ClientState → Trace
aplay_trace job devices bytes w = with_job_device job.device devices (λ device.
    trace_by (reads_sound job.form job device bytes) (λ given.
    trace_of play_finish (plays_on job given.0 device given.1 w) (λ played.
    writes_first (played_text played.frames played.start.0) (ends (finish_by job.strict played.late)))))

-- a block that is sent: how many frames were sent before it, and its bytes
pub record Block : Type 0 where
  pub before : ℕ
  pub bytes : List ℕ

-- the blocks with a whole frame, after n frames, up to the first without one
abbrev pub sent_after : ℕ → ℕ → List (List ℕ) → List Block
sent_after width before [] = []
sent_after width before (block ∷ more) =
    if nat_lt 0 (frames_in width block)
    then (record { before = before; bytes = whole_frames width block }) ∷ sent_after width (before + frames_in width block) more
    else []

-- the blocks of a source's bytes that are sent, each of n frames of so many channels, except the last
abbrev pub sent_blocks : SampleType → (channels frames : ℕ) → List ℕ → List Block
sent_blocks ty channels frames bytes = sent_after (frame_bytes ty channels) 0 (blocks (frames * frame_bytes ty channels) bytes)

-- the samples of bytes, converted and under a gain
abbrev pub gained_samples : SampleType → ℤ → List ℕ → List ℤ
gained_samples ty gain bytes = map (λ x. gained x gain) (samples ty bytes)

-- an accepted play is that of a block, if the first frame of all is played at this time; it was accepted by its start
pub record IsEntryOf (ty : SampleType) (gain : ℤ) (start : ℕ) (block : Block) (entry : AcceptedPlay) : Type 0 where
  pub at_its_time : entry.start ≡ start + block.before
  pub its_samples : entry.samples ≡ gained_samples ty gain block.bytes
  pub in_time : entry.at ≤ entry.start

-- Each block has a play of its own in a device's accepted list, and no other play covers a time of the frames.
pub record AreAccepted (ty : SampleType) (channels : ℕ) (gain : ℤ) (start frames : ℕ) (sent : List Block)
    (accepted : List AcceptedPlay) : Type 0 where
  pub place : ℕ → ℕ
  pub each : (k : ℕ) (block : Block) → slice_get sent k ≡ Some block →
      (entry : AcceptedPlay) × (slice_get accepted (place k) ≡ Some entry) × IsEntryOf ty gain start block entry
  pub no_other : (j i : ℕ) (entry : AcceptedPlay) → slice_get accepted j ≡ Some entry → i < frames →
      covers channels entry (start + i) ≡ true → (k : ℕ) × (k < length sent) × (j ≡ place k)

-- the sample of a channel in frame i
abbrev pub sample_in : (channels : ℕ) → List ℤ → (i channel : ℕ) → ℤ
sample_in channels xs i channel = slice_index_or xs (channels * i + channel) (pos 0)

-- If the blocks of some bytes are accepted, the samples of the whole frames are heard in each channel.
abbrev pub IsHeard : SampleType → (channels : ℕ) → (gain : ℤ) → (block : ℕ) → List ℕ → (start : ℕ) → List AcceptedPlay → Type 0
IsHeard ty channels gain block bytes start accepted =
    AreAccepted ty channels gain start (length bytes / frame_bytes ty channels) (sent_blocks ty channels block bytes) accepted →
    (i channel : ℕ) → i < length bytes / frame_bytes ty channels → channel < channels →
    heard_sample channels accepted (start + i) channel ≡ sample_in channels (gained_samples ty gain bytes) i channel

-- that is so for every source, and blocks of any size
abbrev pub HeardAsIntended : Type 0
HeardAsIntended =
    (ty : SampleType) (channels : ℕ) (gain : ℤ) (block : ℕ) (bytes : List ℕ) (start : ℕ) (accepted : List AcceptedPlay) →
    IsChannelCount channels → 0 < block → IsHeard ty channels gain block bytes start accepted

-- a block is played at the start plus the frames before it
abbrev pub play_of : Order → ℕ → Block → List ℕ
play_of order start block = request_bytes order (play_run false 1 ((start + block.before) % 2 ^ 32) block.bytes)

-- a block that is sent, the time that was told before, and the time that the reply to its play tells
pub record TimedBlock : Type 0 where
  pub block : Block
  pub told : DevTime
  pub reply : DevTime

-- how far playing has come before that
abbrev pub course_before : TimedBlock → Course
course_before timed = record { frames = timed.block.before; told = timed.told; late = false }

-- what is sent for it: the frame that has to go by before it is waited for, if there is one, and the block is played
abbrev pub timed_bytes : Order → Pace → TimedBlock → List ℕ
timed_bytes order pace timed =
    waiting_bytes order pace.frame (awaited pace (course_before timed)) ++ play_of order pace.start.0 timed.block

-- The blocks were sent one after the other, each with the time that was told before it: for the first this one, and for the next
-- one that of the reply to its play.
abbrev pub AreTold : Pace → DevTime → ClientState → List TimedBlock → Type 0
AreTold pace told w [] = ⊤
AreTold pace told w (timed ∷ more) = (timed.told ≡ told) × (v : ClientState)
    × ((plays_block pace (course_before timed) timed.block.bytes w).end ≡ Ok (timed.reply, v)) × AreTold pace timed.reply v more

-- some block had late frames
abbrev pub some_late : Pace → List TimedBlock → Bool
some_late pace [] = false
some_late pace (timed ∷ more) = is_late (block_time pace.start.0 timed.block.before) timed.reply.0 || some_late pace more

-- what is sent: a context is made and the time asked for, each block is played at the pace of the job, the last frame is waited
-- for where the job asks for it, and the context is freed
abbrev pub played_whole : Order → PlayJob → SampleType → (channels : ℕ) → Pace → List TimedBlock → (frames : ℕ) → List ℕ
played_whole order job ty channels pace timed frames =
    request_bytes order (play_context job ty channels) ++ (request_bytes order (get_time job.device)
    ++ (flat_map (timed_bytes order pace) timed
    ++ leaving_bytes order pace.frame (drained job.drain pace.start.0 frames)))

-- A job was done: the samples of the source were played from a start on, and a device that accepts the blocks plays all of them.
-- The end says whether frames were late, if the job is strict.
pub record IsPlayed (job : PlayJob) (devices : List DeviceInfo) (bytes : List ℕ) (w : ClientState) (how : ToolEnd)
    (sent sent' held held' : Option (List ℕ)) : Type 0 where
  pub device : DeviceInfo
  pub is_there : slice_get devices job.device ≡ Some device
  pub ty : SampleType
  pub samples : List ℕ
  pub gives : GivesSamples job.form job device bytes ty samples
  pub now : DevTime
  pub told : answer_on (get_time job.device) as_time (after_reply w) ≡ Ok now
  pub start : ℕ
  pub starts : start ≡ start_at job.time now.0 (frames_lasting device.rate job.lead)
  pub blocks : List TimedBlock
  pub are_sent : map (λ timed. timed.block) blocks
      ≡ sent_blocks ty device.channels (played_frames job device.rate ty device.channels) samples
  pub are_told : AreTold (pace_from job device.rate ty device.channels start) now (after_reply (after_reply w)) blocks
  pub ended : how ≡ tool_end (finish_by job.strict (some_late (pace_from job device.rate ty device.channels start) blocks))
  pub link : Appended sent (played_whole w.order job ty device.channels (pace_from job device.rate ty device.channels start)
      blocks (length samples / frame_bytes ty device.channels)) sent'
  pub sink : Appended held (played_text (length samples / frame_bytes ty device.channels) start) held'
  pub hears : (whole : ℕ) (accepted : List AcceptedPlay) → whole % 2 ^ 32 ≡ start →
      IsHeard ty device.channels job.gain (played_frames job device.rate ty device.channels) samples whole accepted
