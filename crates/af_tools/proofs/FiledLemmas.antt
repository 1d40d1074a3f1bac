-- A recording that is written as a sound file, beside the same recording written raw.
use Rattle.std.proofs.Common.{◌≡◌, ℕ, ◌+◌, ◌*◌, ◌%◌, ◌^◌, ◌==◌, Bool, true, false, List, [], ◌∷◌, ◌++◌, length, length-append, slice_get, append-nil, sym, ap, ◌∙◌, subst, refl, arith, if◌then◌else◌, Result, Ok, Err, IsOk, option_and_then, option_map, unwrap_or, Option, None, Some}
use Rattle.std.proofs.Math.Nat.{add-mul}
use Rattle.std.proofs.lemmas.Bool.Decides.{nat_tests}
use Rattle.af_io.specs.Observed.{Appended}
use Rattle.af_sample.specs.declared.sample_type.SampleType.{SampleType}
use Rattle.af_sample.specs.declared.sample_type.SampleType.TheVariants as ty
use Rattle.af_sound.specs.declared.head.Coding.{Coding}
use Rattle.af_sound.specs.declared.head.Coding.TheVariants as coding
use Rattle.af_sound.specs.declared.head.SoundForm.{SoundForm}
use Rattle.af_sound.specs.declared.head.SoundForm.TheVariants.{Au, Wave}
use Rattle.af_sound.proofs.SwappedLemmas.{swapped_append}
use Rattle.af_request.specs.declared.reply.DeviceInfo.{DeviceInfo}
use Rattle.af_request.specs.Asked.{free_ac, get_time, record_run}
use Rattle.af_request.specs.Answer.{Answer, recorded}
use Rattle.af_wire.specs.declared.order.Order.{Order}
use Rattle.af_request.specs.Requests.{request_bytes}
use Rattle.af_lib.specs.declared.fault.ConnFault.{ConnFault}
use Rattle.af_lib.specs.Answers.{and_then, answer_to, value_or_bad}
use Rattle.af_lib.specs.Calls.{answer_of, as_done, as_recorded, as_time, next_sequence, opcode_of, value_in, Recorded}
use Rattle.af_cli.specs.Sizes.{block_frames}
use Rattle.af_cli.specs.Lengths.{at_rate}
use Rattle.af_cli.specs.declared.job.RecordJob.{RecordJob}
use Rattle.af_toolkit.specs.declared.end.ToolEnd.{ToolEnd}
use Rattle.af_toolkit.specs.Parts.{Outcome, after_deeds, called, goes_on, has_value, outcome}
use Rattle.af_toolkit.proofs.PartLemmas.{first_ok, goes_by}
use Rattle.af_time.specs.declared.DevTime.{DevTime}
use Rattle.af_toolkit.specs.Trace.{Trace, ClientState, after_reply, answer_on, ends, next_message, refused}
use Rattle.af_toolkit.specs.ToolParts.{ToolDeeds, ToolPart, asks, begins, deeds, doing, trace_of, writes}
use Rattle.af_toolkit.specs.Ends.{ObservedTrace, has_done_all}
use Rattle.af_toolkit.specs.Lost.{finish_by, had_left}
use Rattle.af_tools.specs.declared.record.Recording.{Recording}
use Rattle.af_tools.specs.declared.record.TakenBlock.{TakenBlock}
use Rattle.af_tools.specs.declared.record.RecordedSound.{RecordedSound}
use Rattle.af_tools.specs.Record.{as_filed, as_raw, coding_in, front_of_recording, pad_after, recorded_sound, recorded_type, recording_of, IsFiledAs, arecord_trace, block_lengths, ends_row, nothing_recorded, peak, record_context, recorded_frame, recording_on, records_on, records, records_all, takes_block, writes_recording, IsRecorded}
use Rattle.af_tools.specs.Sounds.{AreWhole}
use Rattle.af_tools.proofs.PlayedBlockLemmas.{on_device, on_device_done}
use Rattle.af_toolkit.proofs.ToolEndLemmas.{IsToEnd, asks_answered, asks_first, is_all, part_to_end}
use Rattle.af_tools.proofs.RecordBlockLemmas.{whole_frames}

filed_none : (coding : Option Coding) → as_filed coding [] ≡ []
filed_none (Some coding.Lin16Little) = refl
filed_none c = refl

filed_append : (coding : Option Coding) (a b : List ℕ) → AreWhole coding (length a) → as_filed coding (a ++ b) ≡ as_filed coding a ++ as_filed coding b
filed_append (Some coding.Lin16Little) a b whole = swapped_append a b whole
filed_append c a b whole = refl

-- samples that a file can have are written in a coding that a server takes as their type
filed_in : (form : SoundForm) (t : SampleType) → IsFiledAs (Some (coding_in form (recorded_type (Some form) t))) (recorded_type (Some form) t)
filed_in Au ty.Mu255 = (refl, λ e. cc e)
filed_in Wave ty.Mu255 = (refl, λ e. cc e)
filed_in form t = (refl, λ e. cc e)

filed_as : (form : Option SoundForm) (t : SampleType) → IsFiledAs (option_map (λ f. coding_in f (recorded_type form t)) form) (recorded_type form t)
filed_as None t = tt
filed_as (Some form) t = filed_in form t

-- a block that was recorded has the bytes that were asked for
stated_size : (size : ℕ) (bytes : List ℕ) (answer : Option Answer) (r : Recorded) → value_or_bad bytes (option_and_then (as_recorded true size) answer) ≡ Ok r → length r.samples ≡ size
stated_size size bytes (Some (recorded now samples)) r is = by (length samples == size) refl is where
  by : (b : Bool) → (length samples == size) ≡ b → value_or_bad bytes (if b then Some (let x : Recorded = record { time = record { 0 = now }; samples = samples } in x) else None) ≡ Ok r → length r.samples ≡ size
  by true same is =
      let all : samples ≡ r.samples = cc in
      let long : length samples ≡ size = grind (arith, nat_tests) in
      ap length (sym all) ∙ long
  by false same is = absurd cc
stated_size size bytes answer r is = absurd cc

found_size : (order : Order) (size opcode : ℕ) (found : Result (List ℕ) ConnFault) (r : Recorded) → and_then (value_in order (as_recorded true size) opcode) found ≡ Ok r → length r.samples ≡ size
found_size order size opcode (Ok bytes) r is = stated_size size bytes _ r is
found_size order size opcode (Err fault) r is = absurd cc

answered_size : (order : Order) (size opcode sequence : ℕ) (found : Result (List ℕ) ConnFault) (r : Recorded) → answer_of order (as_recorded true size) opcode sequence found ≡ Ok r → length r.samples ≡ size
answered_size order size opcode sequence found r is = found_size order size opcode (and_then (answer_to order opcode sequence) found) r is

-- the same sound, written raw
abbrev plain_sound : RecordedSound → RecordedSound
plain_sound sound = record { ty = sound.ty; coding = None; channels = sound.channels; horizon = sound.horizon }

-- what a block came to
abbrev taken_of : RecordedSound → (at : ℕ) → Recorded → TakenBlock
taken_of sound at r = record { peak = peak sound.ty r.samples; lost = had_left sound.horizon at r.time.0 }

-- a block that was recorded was written
block_by : (sound : RecordedSound) (at size : ℕ) (w : ClientState) {r : Recorded} → answer_on (record_run true 1 at size) (as_recorded true size) w ≡ Ok r →
    takes_block sound at size w ≡ outcome (deeds (request_bytes w.order (record_run true 1 at size) ++ []) (as_filed sound.coding r.samples)) (Ok (taken_of sound at r, after_reply w))
unfolding goes_on asks
block_by sound at size w {r} good =
    let asked = record_run true 1 at size in
    let bytes = request_bytes w.order asked in
    goes_by doing (asks asked (as_recorded true size)) _ (ap (λ (a : Result Recorded ConnFault). called (deeds bytes []) a (after_reply w)) good)
    ∙ ap (λ (l : List ℕ). outcome {F = ConnFault} (deeds (bytes ++ []) l) (Ok (taken_of sound at r, after_reply w))) (append-nil (as_filed sound.coding r.samples))

-- Blocks that were recorded, after others: a file of their samples was written, and the same recording written raw has these.
record WroteFile (sound : RecordedSound) (before : Recording) (o raw : Outcome ToolDeeds (Recording × ClientState) ConnFault) : Type 0 where
  recording : Recording
  after : ClientState
  sends : List ℕ
  samples : List ℕ
  size : before.frames * recorded_frame sound + length samples ≡ recording.frames * recorded_frame sound
  is : o ≡ outcome (deeds sends (as_filed sound.coding samples)) (Ok (recording, after))
  raw_is : raw ≡ outcome (deeds sends samples) (Ok (recording, after))

wrote_none : (sound : RecordedSound) (before : Recording) (w : ClientState) → WroteFile sound before (has_value doing before w) (has_value doing before w)
wrote_none sound before w = record {
  recording = before;
  after = w;
  sends = [];
  samples = [];
  size = omega arith;
  is = ap (λ (l : List ℕ). outcome {F = ConnFault} (deeds [] l) (Ok (before, w))) (sym (filed_none sound.coding));
  raw_is = refl;
}

records_wrote : (job : RecordJob) (device : DeviceInfo) (sound : RecordedSound) (at : ℕ) (before : Recording) (peaks lengths : List ℕ) (w : ClientState) → IsFiledAs sound.coding sound.ty → IsOk (records job sound at before peaks lengths w).end →
    WroteFile sound before (records job sound at before peaks lengths w) (records (as_raw job device) (plain_sound sound) at before peaks lengths w)
unfolding records
records_wrote job device sound at before peaks [] w filed ok = wrote_none sound before w
records_wrote job device sound at before peaks (n ∷ lengths) w filed ok =
    let frame = recorded_frame sound in
    let run = record_run true 1 at (n * frame) in
    let on = λ (x : TakenBlock). records job sound ((at + n) % 2 ^ 32) (recording_on before n x) (x.peak ∷ peaks) lengths in
    let raw_on = λ (x : TakenBlock). records (as_raw job device) (plain_sound sound) ((at + n) % 2 ^ 32) (recording_on before n x) (x.peak ∷ peaks) lengths in
    let next : TakenBlock → ToolPart Recording = λ x. if ends_row job (x.peak ∷ peaks) then has_value doing (recording_on before n x) else on x in
    let raw_next : TakenBlock → ToolPart Recording = λ x. if ends_row job (x.peak ∷ peaks) then has_value doing (recording_on before n x) else raw_on x in
    let a = asks_first run (as_recorded true (n * frame)) _ w (first_ok doing (takes_block sound at (n * frame)) next w ok) in
    let r = a.value in
    let v = after_reply w in
    let x = taken_of sound at r in
    let bytes : List ℕ = request_bytes w.order run ++ [] in
    let whole = goes_by doing (takes_block sound at (n * frame)) next (block_by sound at (n * frame) w a.good) in
    let raw_whole = goes_by doing (takes_block (plain_sound sound) at (n * frame)) raw_next (block_by (plain_sound sound) at (n * frame) w a.good) in
    let m = either (ends_row job (x.peak ∷ peaks)) sound (recording_on before n x) v (on x) (raw_on x) (λ ok. records_wrote job device sound ((at + n) % 2 ^ 32) (recording_on before n x) (x.peak ∷ peaks) lengths v filed ok) (subst (λ o. IsOk o.end) whole ok) in
    let size : length r.samples ≡ n * frame = answered_size w.order (n * frame) (opcode_of run) (next_sequence w.sequence) (next_message w).found r a.good in
    let count : (before.frames + n) * frame + length m.samples ≡ m.recording.frames * frame = m.size in
    let sum = add-mul before.frames n frame in
    let len = length-append r.samples m.samples in
    record {
      recording = m.recording;
      after = m.after;
      sends = bytes ++ m.sends;
      samples = r.samples ++ m.samples;
      size = omega arith;
      is = whole ∙ ap (after_deeds doing (deeds bytes (as_filed sound.coding r.samples))) m.is
          ∙ ap (λ (l : List ℕ). outcome {F = ConnFault} (deeds (bytes ++ m.sends) l) (Ok (m.recording, m.after))) (sym (filed_append sound.coding r.samples m.samples (whole_frames sound n (length r.samples) filed size)));
      raw_is = raw_whole ∙ ap (after_deeds doing (deeds bytes r.samples)) m.raw_is;
    }
  where
    either : (ends : Bool) (sound : RecordedSound) (count : Recording) (v : ClientState) (on raw_on : ToolPart Recording) → (IsOk (on v).end → WroteFile sound count (on v) (raw_on v)) → (let part : ToolPart Recording = if ends then has_value doing count else on in IsOk (part v).end) →
        (let part : ToolPart Recording = if ends then has_value doing count else on in let raw : ToolPart Recording = if ends then has_value doing count else raw_on in WroteFile sound count (part v) (raw v))
    either true sound count v on raw_on wrote ok = wrote_none sound count v
    either false sound count v on raw_on wrote ok = wrote ok

-- a device that was recorded: a recording was written, and the same written raw has its samples
record WroteRecording (job : RecordJob) (device : DeviceInfo) (w : ClientState) : Type 0 where
  sends : List ℕ
  samples : List ℕ
  recording : Recording
  after : ClientState
  is : records_on job device w ≡ outcome (deeds sends (recording_of job device samples)) (Ok (recording, after))
  raw_is : records_on (as_raw job device) device w ≡ outcome (deeds sends samples) (Ok (recording, after))

-- what was recorded from a start on, between the front and the pad byte
written : (job : RecordJob) (device : DeviceInfo) (start : ℕ) (w : ClientState) → IsOk (writes_recording job device start w).end →
    (sends : List ℕ) × (samples : List ℕ) × (after : ClientState) × (recording : Recording) × (writes_recording job device start w ≡ outcome (deeds sends (recording_of job device samples)) (Ok (recording, after)))
    × (writes_recording (as_raw job device) device start w ≡ outcome (deeds sends samples) (Ok (recording, after)))
unfolding goes_on
written job device start w ok =
    let sound = recorded_sound job device in
    let frame = recorded_frame sound in
    let front = front_of_recording job device in
    let pad : Recording → ToolPart Recording = λ r. goes_on doing (writes (pad_after job.form (r.frames * frame))) (λ _. has_value doing r) in
    let raw_pad : Recording → ToolPart Recording = λ r. goes_on doing (writes []) (λ _. has_value doing r) in
    let lengths = block_lengths (block_frames job.block frame) job.frames in
    let m = records_wrote job device sound start nothing_recorded [] lengths w (filed_as job.form (unwrap_or job.ty device.ty)) (first_ok doing (records_all job sound start) pad w ok) in
    let size : m.recording.frames * frame ≡ length m.samples = (let all : 0 * frame + length m.samples ≡ m.recording.frames * frame = m.size in omega arith) in (
      m.sends ++ [],
      m.samples,
      m.after,
      m.recording,
      ap (after_deeds doing (deeds [] front)) (goes_by doing (records_all job sound start) pad m.is)
          ∙ ap (λ (l : List ℕ). outcome {F = ConnFault} (deeds (m.sends ++ []) (front ++ (as_filed sound.coding m.samples ++ l))) (Ok (m.recording, m.after))) (append-nil (pad_after job.form (m.recording.frames * frame)))
          ∙ ap (λ (n : ℕ). outcome {F = ConnFault} (deeds (m.sends ++ []) (front ++ (as_filed sound.coding m.samples ++ pad_after job.form n))) (Ok (m.recording, m.after))) size,
      ap (after_deeds doing (deeds [] [])) (goes_by doing (records_all (as_raw job device) (plain_sound sound) start) raw_pad m.raw_is)
          ∙ ap (λ (l : List ℕ). outcome {F = ConnFault} (deeds (m.sends ++ []) l) (Ok (m.recording, m.after))) (append-nil m.samples),
    )

recorded_on : (job : RecordJob) (device : DeviceInfo) (w : ClientState) → IsOk (records_on job device w).end → WroteRecording job device w
recorded_on job device w ok =
    let freeing : Recording → ToolPart Recording = λ r. goes_on doing (asks (free_ac 1) as_done) (λ _. has_value doing r) in
    let next = λ (j : RecordJob) (now : DevTime). goes_on doing (writes_recording j device (unwrap_or job.time now.0)) freeing in
    let begun = begins (record_context job device) job.device in
    let a = asks_first (record_context job device) as_done (λ _. asks (get_time job.device) as_time) w (first_ok doing begun (next job) w ok) in
    let t = asks_answered (get_time job.device) as_time (after_reply w) a.last in
    let start = unwrap_or job.time t.0.0 in
    let v = after_reply (after_reply w) in
    let context : List ℕ = request_bytes w.order (record_context job device) in
    let time : List ℕ = request_bytes w.order (get_time job.device) in
    let begin = a.is ∙ ap (after_deeds doing (deeds context [])) t.2 in
    let whole = goes_by doing begun (next job) begin in
    let ok' = subst (λ o. IsOk o.end) whole ok in
    let r = written job device start v (first_ok doing (writes_recording job device start) _ v ok') in
    let more = goes_by doing (writes_recording job device start) freeing r.4 in
    let f = asks_first (free_ac 1) as_done (λ _. has_value doing r.3) r.2 (subst (λ o. IsOk o.end) more ok') in
    let raw_more = goes_by doing (writes_recording (as_raw job device) device start) freeing r.5 in
    let sends : List ℕ = (context ++ time) ++ (r.0 ++ (request_bytes r.2.order (free_ac 1) ++ [])) in
    let begun_by = deeds (context ++ time) [] in
    let end : (output : List ℕ) → outcome {X = Recording × ClientState} {F = ConnFault} (deeds sends (output ++ [])) (Ok (r.3, after_reply r.2)) ≡ outcome (deeds sends output) (Ok (r.3, after_reply r.2)) =
    λ output. ap (λ (l : List ℕ). outcome {X = Recording × ClientState} {F = ConnFault} (deeds sends l) (Ok (r.3, after_reply r.2))) (append-nil output) in
    record {
      sends = sends;
      samples = r.1;
      recording = r.3;
      after = after_reply r.2;
      is = whole ∙ ap (after_deeds doing begun_by) (more ∙ ap (after_deeds doing (deeds r.0 (recording_of job device r.1))) f.is) ∙ end (recording_of job device r.1);
      raw_is = goes_by doing begun (next (as_raw job device)) begin ∙ ap (after_deeds doing begun_by) (raw_more ∙ ap (after_deeds doing (deeds r.0 r.1)) f.is) ∙ end r.1;
    }

pub is_recorded : (job : RecordJob) (devices : List DeviceInfo) (w : ClientState) (how : ToolEnd) (s s' h h' : Option (List ℕ)) → ObservedTrace (arecord_trace job devices w) how s s' h h' → has_done_all how ≡ true → IsRecorded job devices w s s' h h'
unfolding arecord_trace
is_recorded job devices w how s s' h h' followed way =
    let all = is_all followed.ended way in
    let ending = λ (r : Recording). ends (finish_by job.strict r.lost) in
    let whole = λ (o : Outcome ToolDeeds (Recording × ClientState) ConnFault). trace_of refused o ending in
    let d = on_device_done (slice_get devices job.device) (length devices) (λ device. whole (records_on (at_rate device.rate job) device w)) all.finish in
    let device = d.0 in
    let timed = at_rate device.rate job in
    let r = recorded_on timed device w (part_to_end (records_on timed device w).end ending (subst (λ (c : Trace). IsToEnd c.finish) d.2 all.finish)) in
    let is = d.2 ∙ ap whole r.is in
    let raw = as_raw job device in
    let raw_is = ap (λ (o : Option DeviceInfo). on_device o (length devices) (λ device. whole (records_on (at_rate device.rate raw) device w))) d.1 ∙ ap whole r.raw_is in
    record {
      device = device;
      is_there = d.1;
      samples = (arecord_trace raw devices w).output;
      are_raw = refl;
      link = subst (λ (b : List ℕ). Appended s b s') (all.sent ∙ ap (λ (c : Trace). c.sends) is ∙ sym (ap (λ (c : Trace). c.sends) raw_is)) followed.link;
      sink = subst (λ (b : List ℕ). Appended h b h') (all.wrote ∙ ap (λ (c : Trace). c.output) is ∙ append-nil (recording_of timed device r.samples) ∙ ap (recording_of timed device) (sym (ap (λ (c : Trace). c.output) raw_is ∙ append-nil r.samples))) followed.sink;
    }
