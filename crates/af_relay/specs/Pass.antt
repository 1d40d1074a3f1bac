-- What apass does: block after block is recorded on one server and played on another.
use Rattle.std.specs.Prelude.{ℕ, zero, suc, ◌+◌, ◌-◌, ◌*◌, ◌%◌, ◌^◌, nat_lt, if◌then◌else◌, Bool, true, false, ◌&&◌}
use Rattle.std.specs.Prelude.{ℤ, pos, negsuc, ◌-ℤ◌, int_lt, unsigned_abs}
use Rattle.std.specs.Prelude.{List, [], ◌++◌, length, take, drop, codes, decimal, option_and_then, unwrap_or, Result, Ok, Err}
use Rattle.std.specs.Prelude.{Option, None, Some}
use Rattle.af_time.specs.declared.DevTime.{DevTime}
use Rattle.af_time.specs.DeviceTime.{frames_lasting, word_difference}
use Rattle.af_sample.specs.declared.sample_type.SampleType.{SampleType}
use Rattle.af_sample.specs.SampleTypes.{code_of, frame_bytes}
use Rattle.af_request.specs.declared.reply.DeviceInfo.{DeviceInfo}
use Rattle.af_request.specs.Asked.{Asked, create_ac, free_ac, get_time, play_run, record_run}
use Rattle.af_request.specs.Answer.{Answer}
use Rattle.af_request.specs.Requests.{request_bytes}
use Rattle.af_lib.specs.declared.fault.ConnFault.{ConnFault}
use Rattle.af_lib.specs.Calls.{as_done, as_recorded, as_time}
use Rattle.af_cli.specs.declared.job.PassJob.{PassJob}
use Rattle.af_cli.specs.Sizes.{block_frames}
use Rattle.af_toolkit.specs.Parts.{Deeds, Outcome, Part, called, goes_on, has_value, part_among, part_by}
use Rattle.af_toolkit.specs.Trace.{Trace, Finish, ClientState, after_reply, answer_on, done, refused}
use Rattle.af_relay.specs.declared.pass.RelayPace.{RelayPace}
use Rattle.af_relay.specs.declared.pass.RelayProgress.{RelayProgress}
use Rattle.af_relay.specs.declared.pass.LastFrame.{LastFrame}
use Rattle.af_relay.specs.declared.pass.LastFrame.TheVariants.{Once, Twice, LeftOut}
use Rattle.af_relay.specs.declared.pass.PlayMoment.{PlayMoment}
use Rattle.af_relay.specs.Pair.{pair_of}

-- what a relay does: the bytes that it sends on each of its two links, and those that it writes
pub record RelayDeeds : Type 0 where
  pub from : List ℕ
  pub to : List ℕ
  pub output : List ℕ

abbrev pub deeds : (from to output : List ℕ) → RelayDeeds
deeds from to output = record { from = from; to = to; output = output }

abbrev pub doing : Deeds RelayDeeds
doing = record {
  nothing = deeds [] [] [];
  joined = λ d e. deeds (d.from ++ e.from) (d.to ++ e.to) (d.output ++ e.output);
}

-- the trace of a relay: what it does, and why it ends
pub record RelayTrace : Type 0 where
  pub did : RelayDeeds
  pub finish : Finish

-- a relay, as each of its links sees it
abbrev pub on_from : RelayTrace → Trace
on_from r = record { sends = r.did.from; output = r.did.output; finish = r.finish }

abbrev pub on_to : RelayTrace → Trace
on_to r = record { sends = r.did.to; output = r.did.output; finish = r.finish }

-- what there is of each of the two links
pub record Both (A : Type 0) : Type 0 where
  pub from : A
  pub to : A

abbrev pub both : {A : Type 0} → A → A → Both A
both from to = record { from = from; to = to }

-- A part of a relay goes by how far its two clients have come. It ends with a value, or for such a cause.
abbrev pub RelayPart : (F X : Type 0) → Type 0
RelayPart F X = Part (Both ClientState) RelayDeeds F X

-- why a relay ends: one that comes to the end of its parts is done
abbrev pub finish_of : {X : Type 0} → Result X Finish → Finish
finish_of (Ok x) = done
finish_of (Err finish) = finish

-- the trace of a relay, by the outcome of its parts
abbrev pub relay_of : {X : Type 0} → Outcome RelayDeeds X Finish → RelayTrace
relay_of o = record { did = o.did; finish = finish_of o.end }

-- a request is sent on one of the links, and its answer is the value
unfoldable pub asks_from : {X : Type 0} → Asked → (Answer → Option X) → RelayPart ConnFault X
asks_from asked value_of at =
    called (deeds (request_bytes at.from.order asked) [] []) (answer_on asked value_of at.from) (both (after_reply at.from) at.to)

unfoldable pub asks_to : {X : Type 0} → Asked → (Answer → Option X) → RelayPart ConnFault X
asks_to asked value_of at =
    called (deeds [] (request_bytes at.to.order asked) []) (answer_on asked value_of at.to) (both at.from (after_reply at.to))

-- the time that a reply states: a word of 32 bits
unfoldable pub as_word : Answer → Option DevTime
as_word answer = option_and_then (λ now. if nat_lt now.0 (2 ^ 32) then Some now else None) (as_time answer)

-- n frames after a time
abbrev pub time_after : DevTime → ℕ → DevTime
time_after time frames = record { 0 = (time.0 + frames) % 2 ^ 32 }

-- The next block is due at this time. Its place is the delay ahead of the other server's time; this is how many frames it is
-- due after its place, below 0 if before it.
abbrev pub gap_of : (due now : DevTime) → (delay : ℕ) → ℤ
gap_of due now delay = word_difference due.0 now.0 -ℤ pos delay

-- The relay has drifted if the next block is due further than the slack from its place.
abbrev pub has_drifted : (due now : DevTime) (delay slack : ℕ) → Bool
has_drifted due now delay slack = nat_lt slack (unsigned_abs (gap_of due now delay))

-- a block is due more than a frame before its place, and more than a frame after it
abbrev pub is_early : ℤ → Bool
is_early gap = int_lt gap (negsuc 0)

abbrev pub is_late : ℤ → Bool
is_late gap = int_lt (pos 1) gap

-- What a relay makes of the last frame of a block that has not drifted. One that follows the other server's clock plays it twice
-- if the block is due too early. It leaves it out if the block is due too late, unless it is the only one.
abbrev pub last_frame_of : RelayPace → (gap : ℤ) → LastFrame
last_frame_of pace gap =
    if pace.follow && is_early gap then Twice
    else if pace.follow && is_late gap && nat_lt 1 pace.frames then LeftOut
    else Once

-- the samples of a block as they are played, by the bytes of a frame
abbrev pub played_samples : LastFrame → (frame : ℕ) → List ℕ → List ℕ
played_samples Once frame samples = samples
played_samples Twice frame samples = samples ++ drop (length samples - frame) samples
played_samples LeftOut frame samples = take (length samples - frame) samples

-- how many frames of a block are played
abbrev pub frames_played : LastFrame → (frames : ℕ) → ℕ
frames_played Once frames = frames
frames_played Twice frames = frames + 1
frames_played LeftOut frames = frames - 1

-- in step with the other server: exactly the delay ahead of its time
abbrev pub in_step : (now : DevTime) → ℕ → Bool → PlayMoment
in_step now delay resynced = record { time = time_after now delay; resynced = resynced; last = Once }

-- when a block is played: the first one in step, and each other when it is due, or in step again if the relay has drifted
abbrev pub moment_of : RelayPace → Option DevTime → (now : DevTime) → PlayMoment
moment_of pace None now = in_step now pace.delay false
moment_of pace (Some due) now =
    if has_drifted due now pace.delay pace.slack then in_step now pace.delay true
    else record { time = due; resynced = false; last = last_frame_of pace (gap_of due now pace.delay) }

-- how far a relay has come after one more block was played at its place
abbrev pub after_block : RelayProgress → PlayMoment → ℕ → RelayProgress
after_block passed place frames = record {
  at = time_after passed.at frames;
  due = Some (time_after place.time (frames_played place.last frames));
  resynced = passed.resynced + (if place.resynced then 1 else 0);
}

-- a block is recorded on the one server, and played on the other
abbrev pub passes_block : PassJob → RelayPace → RelayProgress → RelayPart ConnFault RelayProgress
passes_block job pace passed =
    goes_on doing (asks_from (record_run true 1 passed.at.0 pace.size) (as_recorded true pace.size)) (λ r.
    goes_on doing (asks_to (get_time job.to_device) as_word) (λ now.
    let place = moment_of pace passed.due now in
    goes_on doing (asks_to (play_run false 1 place.time.0 (played_samples place.last pace.frame r.samples)) as_time) (λ _.
    has_value doing (after_block passed place pace.frames))))

-- n blocks
abbrev pub passes : ℕ → PassJob → RelayPace → RelayProgress → RelayPart ConnFault RelayProgress
passes zero job pace passed = has_value doing passed
passes (suc n) job pace passed = goes_on doing (passes_block job pace passed) (λ passed. passes n job pace passed)

-- the contexts of a job, of one type and as many channels
abbrev pub from_context : PassJob → SampleType → (channels : ℕ) → Asked
from_context job ty channels = create_ac job.from_device 1 (code_of ty) channels 0 (pos 0) job.gain

abbrev pub to_context : PassJob → SampleType → (channels : ℕ) → Asked
to_context job ty channels = create_ac job.to_device 1 (code_of ty) channels 0 (pos 0) (pos 0)

-- both contexts are made, and the time of the recorded device is asked for
abbrev pub begins_both : PassJob → SampleType → (channels_from channels_to : ℕ) → RelayPart ConnFault DevTime
begins_both job ty channels_from channels_to =
    goes_on doing (asks_from (from_context job ty channels_from) as_done) (λ _.
    goes_on doing (asks_to (to_context job ty channels_to) as_done) (λ _.
    asks_from (get_time job.from_device) as_time))

-- both contexts are freed
abbrev pub ends_contexts : RelayPart ConnFault (Unit {0})
ends_contexts = goes_on doing (asks_from (free_ac 1) as_done) (λ _. asks_to (free_ac 1) as_done)

-- the pace of a job, by the bytes of a frame and the rate: the frames and the bytes of a block, the delay and the slack in
-- frames, and whether it follows the other server's clock
abbrev pub pace_of : PassJob → (frame rate : ℕ) → RelayPace
pace_of job frame rate = record {
  frames = block_frames job.block frame;
  frame = frame;
  size = block_frames job.block frame * frame;
  delay = frames_lasting rate job.delay;
  slack = frames_lasting rate job.slack;
  follow = job.follow;
}

-- How many blocks a relay passes. One that is to go on until a link ends has more to pass than its clocks have time for: at a
-- block each millisecond they would last 500 million years.
abbrev pub block_count : Option ℕ → ℕ
block_count None = 2 ^ 64 - 1
block_count (Some blocks) = blocks

-- nothing was passed so far
abbrev pub no_progress : DevTime → RelayProgress
no_progress now = record { at = now; due = None; resynced = 0 }

-- the type of a job's samples, if this device is recorded, and its pace
abbrev pub type_from : PassJob → DeviceInfo → SampleType
type_from job device = unwrap_or job.ty device.ty

abbrev pub pace_from : PassJob → DeviceInfo → RelayPace
pace_from job device = pace_of job (frame_bytes (type_from job device) device.channels) device.rate

-- All blocks of a job are passed between two devices of one rate and as many channels. The value is how often the relay fell in
-- step again.
abbrev pub passes_between : PassJob → (from : DeviceInfo) → RelayPart ConnFault ℕ
passes_between job device =
    goes_on doing (begins_both job (type_from job device) device.channels device.channels) (λ now.
    goes_on doing (passes (block_count job.blocks) job (pace_from job device) (no_progress now)) (λ passed.
    goes_on doing ends_contexts (λ _.
    has_value doing passed.resynced)))

-- what apass writes
unfoldable pub passed_text : (blocks resynced : ℕ) → List ℕ
passed_text blocks resynced = codes "passed " ++ decimal blocks ++ codes " resynced " ++ decimal resynced ++ codes "\n"

-- the line is written
abbrev pub writes_line : List ℕ → RelayPart Finish (Unit {0})
writes_line text at = called (deeds [] [] text) (Ok tt) at

-- A relay between two servers that are set up, by their devices. If these are a pair, it passes all blocks, and then writes how
-- many these were and how often it fell in step again.
unfoldable pub relays : PassJob → (from to : List DeviceInfo) → RelayPart Finish (Unit {0})
relays job from to = part_by doing (pair_of from job.from_device to job.to_device) (λ device.
    goes_on doing (part_among refused (passes_between job device)) (λ resynced.
    writes_line (passed_text (block_count job.blocks) resynced)))

-- the trace of apass, by the devices of the two servers and what the links give
abbrev pub apass_trace : PassJob → (from to : List DeviceInfo) → (v w : ClientState) → RelayTrace
apass_trace job from to v w = relay_of (relays job from to (both v w))
