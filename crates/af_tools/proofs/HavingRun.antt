-- What a tool on one connection has done, if it followed its trace.
use Rattle.std.proofs.Common.{◌≡◌, ◌==◌, ◌+◌, ◌-◌, ℕ, Bool, true, false, ◌<◌, ◌≤◌, List, drop, length-append, length-drop, length, slice_get, refl, ap, ◌∙◌, arith, inl, inr, Ok, Option, None, Some}
use Rattle.std.proofs.lemmas.Bool.Decides.{nat_tests}
use Rattle.std.proofs.lemmas.Option.{slice_get_cases}
use Rattle.af_request.specs.declared.reply.DeviceInfo.{DeviceInfo}
use Rattle.af_request.specs.Replies.{IsDeviceInfo}
use Rattle.af_toolkit.specs.declared.end.ToolEnd.{ToolEnd}
use Rattle.af_toolkit.specs.Trace.{Trace, ClientState, done, ends, refused, trace_by, with_job_device, writes_first}
use Rattle.af_toolkit.specs.ToolParts.{trace_of}
use Rattle.af_toolkit.specs.Ends.{IsKept, ObservedTrace, ToolRan}
use Rattle.af_toolkit.specs.Lost.{finish_by}
use Rattle.af_toolkit.proofs.ToolEndLemmas.{tool_ran}
use Rattle.af_cli.specs.Lengths.{at_rate}
use Rattle.af_cli.specs.declared.job.PlayJob.{PlayJob}
use Rattle.af_cli.specs.declared.job.RecordJob.{RecordJob}
use Rattle.af_cli.specs.declared.job.SetJob.{SetJob}
use Rattle.af_sound.specs.declared.head.HeadStep.TheVariants as step
use Rattle.af_sound.specs.declared.head.SoundForm.{SoundForm}
use Rattle.af_sound.specs.Fronts.{front_of, Front}
use Rattle.af_sound.proofs.FrontLemmas.{front, front_head}
use Rattle.af_sample.specs.declared.sample_type.SampleType.{SampleType}
use Rattle.af_tools.specs.declared.sound.SourceSound.{SourceSound}
use Rattle.af_tools.specs.Sounds.{most_bytes, file_sound, raw_sound, reads_file, reads_sound, GivesSamples, IsFileSound, IsPlayable}
use Rattle.af_tools.proofs.HeadReadLemmas.{front_within}
use Rattle.af_tools.specs.Play.{aplay_trace}
use Rattle.af_tools.proofs.EndLemmas.{ends_if_unfit}
use Rattle.af_tools.specs.Record.{arecord_trace, records_on}
use Rattle.af_standing.specs.ControlsReport.{controls_report_text}
use Rattle.af_tools.specs.Set.{aset_trace, sets_on}
use Rattle.af_tools.specs.Reading.{AplayRan}
use Rattle.af_tools.proofs.TraceEndLemmas.{IsOver, kept_done, over_by, part_over, played_finish}
use Rattle.af_tools.proofs.PlayedBlockLemmas.{is_played}
use Rattle.af_tools.proofs.DeviceChoiceLemmas.{IsMissing, IsThere, followed_missing, followed_there, missing_at, reported, stated_at}

-- the device with a number below their number
device_at : (devices : List DeviceInfo) (number : ℕ) → number < length devices → (device : DeviceInfo) × (slice_get devices number ≡ Some device)
device_at devices number there = elim ((slice_get_cases devices number).1) [
  | inl within ↦ (within.0, within.2)
  | inr beyond ↦ absurd (let b = beyond.0 in omega arith)
]

-- a sound that the device plays
sound_read : (form : SoundForm) (job : PlayJob) (device : DeviceInfo) (bytes : List ℕ) (ty : SampleType) (samples : List ℕ) → IsFileSound form device bytes ty samples → length bytes ≤ most_bytes →
    (sound : SourceSound) × (rest : List ℕ) × (sound.head + length rest ≤ most_bytes) × (reads_sound (Some form) job device bytes ≡ Ok (sound, rest))
sound_read form job device bytes ty samples s few =
    let size = length s.front in
    let said : front_of form bytes ≡ front (step.Head s.head) size = ap (front_of form) s.is ∙ front_head form s.front s.rest s.head s.is_head in
    let len : length bytes ≡ length s.front + length s.rest = ap length s.is ∙ length-append s.front s.rest in
    let left : length (drop size bytes) ≡ length bytes - size = length-drop size bytes in
    let rate : (s.head.rate == device.rate) ≡ true = (let is = s.one_rate in grind (arith, nat_tests)) in
    let channels : (s.head.channels == device.channels) ≡ true = (let is = s.one_shape in grind (arith, nat_tests)) in
    (file_sound device s.head size, drop size bytes, omega arith, ap (λ (f : Front). reads_file device f bytes) said ∙ rw (front_within (step.Head s.head) size (omega arith), rate, channels) refl)

playable_finish : (form : Option SoundForm) (job : PlayJob) (device : DeviceInfo) (bytes : List ℕ) (w : ClientState) (ty : SampleType) (samples : List ℕ) → GivesSamples form job device bytes ty samples → length bytes ≤ most_bytes →
    IsOver job.strict (trace_by (reads_sound form job device bytes) (reported job device w)).finish
playable_finish None job device bytes w ty samples is few = played_finish job (raw_sound job device) device bytes w _ (omega arith) (λ p. over_by job.strict p.late)
playable_finish (Some form) job device bytes w ty samples is few =
    let r = sound_read form job device bytes ty samples is few in
    rw r.3 (played_finish job r.0 device r.1 w _ r.2 (λ p. over_by job.strict p.late))

-- what a source gives is played on its device
abbrev pub source_played : PlayJob → List ℕ → ClientState → DeviceInfo → Trace
source_played job bytes w device = trace_by (reads_sound job.form job device bytes) (reported job device w)

aplay_is : (job : PlayJob) (devices : List DeviceInfo) (bytes : List ℕ) (w : ClientState) → aplay_trace job devices bytes w ≡ with_job_device job.device devices (source_played job bytes w)
unfolding aplay_trace
aplay_is job devices bytes w = refl

aplay_finish : (job : PlayJob) (devices : List DeviceInfo) (bytes : List ℕ) (w : ClientState) → IsPlayable job devices bytes → IsOver job.strict (aplay_trace job devices bytes w).finish
aplay_finish job devices bytes w p =
    rw (aplay_is job devices bytes w, p.1) (playable_finish job.form job p.0 bytes w p.3 p.4 p.5 p.2)

-- a tool on the device with a number, strict or not; on each device it does all or is refused
pub record IsOnDevice (trace : Trace) (strict : Bool) (number : ℕ) (devices : List DeviceInfo) (each : DeviceInfo → Trace) : Type 0 where
  pub is : trace ≡ with_job_device number devices each
  pub finish : (device : DeviceInfo) → IsOver strict (each device).finish

pub arecord_on : (job : RecordJob) (devices : List DeviceInfo) (w : ClientState) → IsOnDevice (arecord_trace job devices w) job.strict job.device devices (λ device. trace_of refused (records_on (at_rate device.rate job) device w) (λ r. ends (finish_by job.strict r.lost)))
unfolding arecord_trace
arecord_on job devices w = record { is = refl; finish = λ device. part_over job.strict (records_on (at_rate device.rate job) device w).end (λ r. ends (finish_by job.strict r.lost)) (λ r. over_by job.strict r.lost) }

pub aset_on : (job : SetJob) (devices : List DeviceInfo) (w : ClientState) →
    IsOnDevice (aset_trace job devices w) false job.device devices (λ device. trace_of refused (sets_on job device w) (λ controls_report. writes_first (controls_report_text controls_report) (ends done)))
unfolding aset_trace
aset_on job devices w = record { is = refl; finish = λ device. part_over false (sets_on job device w).end _ (λ s. inl refl) }

module _ (trace : Trace) (strict : Bool) (number : ℕ) (devices : List DeviceInfo) (each : DeviceInfo → Trace) (t : IsOnDevice trace strict number devices each) where
  followed_ran : (how : ToolEnd) (s s' h h' : Option (List ℕ)) → ObservedTrace trace how s s' h h' → ToolRan ((number < length devices) × IsKept strict trace) trace how s s' h h'
  followed_ran how s s' h h' f = tool_ran f (λ ready. let d = device_at devices number ready.0 in kept_done strict trace (let over : IsOver strict trace.finish = rw (t.is, d.1) (t.finish d.0) in over) ready.1)

  -- the device does not exist, and nothing was sent
  pub missing_ran : (how : ToolEnd) (s h : Option (List ℕ)) → IsMissing devices number how → ToolRan ((number < length devices) × IsKept strict trace) trace how s s h h
  missing_ran how s h m = followed_ran how s s h h (followed_missing each t.is m)

  -- the device exists, and the tool did what it does on it
  pub there_ran : (device : DeviceInfo) (how : ToolEnd) (s s' h h' : Option (List ℕ)) → IsThere devices number device → ObservedTrace (each device) how s s' h h' → ToolRan ((number < length devices) × IsKept strict trace) trace how s s' h h'
  there_ran device how s s' h h' d f = followed_ran how s s' h h' (followed_there each t.is d f)

aplay_ran : (job : PlayJob) (devices : List DeviceInfo) (bytes : List ℕ) (w : ClientState) (how : ToolEnd) (s s' h h' : Option (List ℕ)) → 1 ≤ job.block →
    ((d : DeviceInfo) → slice_get devices job.device ≡ Some d → IsDeviceInfo d) → ObservedTrace (aplay_trace job devices bytes w) how s s' h h' → AplayRan job devices bytes w how s s' h h'
aplay_ran job devices bytes w how s s' h h' some stated f = record {
  ran = tool_ran f (λ ready. kept_done job.strict (aplay_trace job devices bytes w) (aplay_finish job devices bytes w ready.0) ready.1);
  heard = λ way. is_played job devices bytes w how s s' h h' f way some stated;
  unfit = ends_if_unfit f.ended;
}

-- the device of aplay is not there, and nothing was sent
pub aplay_missing_ran : (job : PlayJob) {devices : List DeviceInfo} {bytes : List ℕ} {w : ClientState} {how : ToolEnd} {s h : Option (List ℕ)} → 1 ≤ job.block → IsMissing devices job.device how → AplayRan job devices bytes w how s s h h
aplay_missing_ran job {devices} {bytes} {w} {how} {s} {h} some m =
    aplay_ran job devices bytes w how s s h h some (missing_at devices job.device m.get) (followed_missing (source_played job bytes w) (aplay_is job devices bytes w) m)

-- it is there, and the source was read and played
pub aplay_there_ran : (job : PlayJob) {devices : List DeviceInfo} {bytes : List ℕ} {w : ClientState} {how : ToolEnd} {s s' h h' : Option (List ℕ)} {device : DeviceInfo} → 1 ≤ job.block → IsThere devices job.device device → IsDeviceInfo device →
    ObservedTrace (source_played job bytes w device) how s s' h h' → AplayRan job devices bytes w how s s' h h'
aplay_there_ran job {devices} {bytes} {w} {how} {s} {s'} {h} {h'} {device} some t stated f =
    aplay_ran job devices bytes w how s s' h h' some (stated_at devices job.device device t.get stated) (followed_there (source_played job bytes w) (aplay_is job devices bytes w) t f)
