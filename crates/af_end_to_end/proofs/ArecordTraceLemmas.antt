-- What an arecord that did all has sent and written, by the answers that it got.
use Rattle.std.proofs.Common.{◌≡◌, ℕ, ◌+◌, ◌*◌, ◌%◌, ◌^◌, Bool, true, false, cond, List, [], ◌∷◌, ◌++◌, length, map, ok_or, unwrap_or, slice_get, refl, sym, ap, ◌∙◌, subst, append_assoc, append-nil, Result, Ok, Err, IsOk}
use Rattle.std.specs.declared.option.Option.{Option}
use Rattle.std.specs.declared.option.Option.TheVariants.{Some}
use Rattle.af_time.specs.declared.DevTime.{DevTime}
use Rattle.af_wire.specs.declared.order.Order.{Order}
use Rattle.af_request.specs.declared.reply.DeviceInfo.{DeviceInfo}
use Rattle.af_request.specs.Asked.{Asked, free_ac, get_time, record_run}
use Rattle.af_request.specs.Answer.{Answer}
use Rattle.af_request.specs.Requests.{request_bytes}
use Rattle.af_lib.specs.declared.fault.ConnFault.{ConnFault}
use Rattle.af_lib.specs.declared.fault.ConnFault.TheVariants as fault
use Rattle.af_lib.specs.Calls.{Recorded, as_done, as_recorded, as_time}
use Rattle.af_cli.specs.declared.job.RecordJob.{RecordJob}
use Rattle.af_cli.specs.Lengths.{at_rate}
use Rattle.af_toolkit.specs.Parts.{Outcome, after_deeds, goes_on, has_value, outcome}
use Rattle.af_toolkit.specs.Trace.{ClientState, Trace, after_reply, answer_on, ends, no_device, refused, tool_end, trace_by}
use Rattle.af_toolkit.specs.ToolParts.{ToolDeeds, ToolPart, asks, begins, deeds, doing, trace_ending, trace_of, writes}
use Rattle.af_toolkit.specs.Ends.{has_done_all}
use Rattle.af_toolkit.specs.Lost.{finish_by, had_left}
use Rattle.af_toolkit.proofs.PartLemmas.{called_last, first_ok, goes_by}
use Rattle.af_tools.specs.declared.record.RecordedSound.{RecordedSound}
use Rattle.af_tools.specs.declared.record.Recording.{Recording}
use Rattle.af_tools.specs.declared.record.TakenBlock.{TakenBlock}
use Rattle.af_tools.specs.Record.{arecord_trace, as_filed, ends_row, front_of_recording, nothing_recorded, pad_after, peak, record_context, recorded_frame, recorded_sound, recording_on, records, records_all, records_on, takes_block, writes_recording}
use Rattle.af_tools.specs.RecordSteps.{job_lengths}

-- Parts that came to a value

-- what follows a part that came to a value
record Follows {X Y : Type 0} (part : ToolPart X) (next : X → ToolPart Y) (w : ClientState) (did : ToolDeeds) (x : X) (there : ClientState) : Type 0 where
  is : goes_on doing part next w ≡ after_deeds doing did (next x there)
  last : IsOk (next x there).end

follows : {X Y : Type 0} (part : ToolPart X) (next : X → ToolPart Y) (w : ClientState) (did : ToolDeeds) (x : X) (there : ClientState) → part w ≡ outcome did (Ok (x, there)) → IsOk (goes_on doing part next w).end → Follows part next w did x there
follows {X} {Y} part next w did x there e ok =
    let is = goes_by doing part next {s = w} {did = did} {x = x} {there = there} e in
    record { is = is; last = subst (λ (o : Outcome ToolDeeds (Y × ClientState) ConnFault). IsOk o.end) is ok }

-- a request that was answered with a value
record IsAsked {X : Type 0} (asked : Asked) (value_of : Answer → Option X) (w : ClientState) : Type 0 where
  value : X
  good : answer_on asked value_of w ≡ Ok value
  is : asks asked value_of w ≡ outcome (deeds (request_bytes w.order asked) []) (Ok (value, after_reply w))

is_asked : {X : Type 0} (asked : Asked) (value_of : Answer → Option X) (w : ClientState) → IsOk (asks asked value_of w).end → IsAsked asked value_of w
unfolding asks
is_asked asked value_of w ok =
    let a = called_last (deeds (request_bytes w.order asked) []) (answer_on asked value_of w) (after_reply w) ok in
    record { value = a.0; good = a.1; is = a.2 }

-- Blocks

-- a block that was recorded: how many frames it has, and what its Record was answered with
pub record TakenOne : Type 0 where
  pub frames : ℕ
  pub taken : Recorded

-- each of these Records was answered so, one after another, from a time on
abbrev pub AreAnswered : RecordedSound → (at : ℕ) → List TakenOne → ClientState → (end : ClientState) → Type 0
AreAnswered sound at [] w end = end ≡ w
AreAnswered sound at (b ∷ more) w end =
    (answer_on (record_run true 1 at (b.frames * recorded_frame sound)) (as_recorded true (b.frames * recorded_frame sound)) w ≡ Ok b.taken)
    × AreAnswered sound ((at + b.frames) % 2 ^ 32) more (after_reply w) end

-- the bytes of these Records, and those that were written of their answers
abbrev pub asked_for : Order → RecordedSound → (at : ℕ) → List TakenOne → List ℕ
asked_for order sound at [] = []
asked_for order sound at (b ∷ more) = request_bytes order (record_run true 1 at (b.frames * recorded_frame sound)) ++ asked_for order sound ((at + b.frames) % 2 ^ 32) more

abbrev pub written_of : RecordedSound → List TakenOne → List ℕ
written_of sound [] = []
written_of sound (b ∷ more) = as_filed sound.coding b.taken.samples ++ written_of sound more

-- blocks that were recorded and written
record Ran (sound : RecordedSound) (at : ℕ) (lengths : List ℕ) (w : ClientState) (o : Outcome ToolDeeds (Recording × ClientState) ConnFault) : Type 0 where
  blocks : List TakenOne
  others : List ℕ
  are : lengths ≡ map (λ (b : TakenOne). b.frames) blocks ++ others
  value : Recording
  end : ClientState
  answered : AreAnswered sound at blocks w end
  is : o ≡ outcome (deeds (asked_for w.order sound at blocks) (written_of sound blocks)) (Ok (value, end))

abbrev block_value : RecordedSound → ℕ → Recorded → TakenBlock
block_value sound at r = record { peak = peak sound.ty r.samples; lost = had_left sound.horizon at r.time.0 }

-- a block is recorded and written
block_taken : (sound : RecordedSound) (at size : ℕ) (w : ClientState) → IsOk (takes_block sound at size w).end → (r : Recorded) × (answer_on (record_run true 1 at size) (as_recorded true size) w ≡ Ok r)
    × (takes_block sound at size w ≡ outcome (deeds (request_bytes w.order (record_run true 1 at size)) (as_filed sound.coding r.samples)) (Ok (block_value sound at r, after_reply w)))
unfolding goes_on
block_taken sound at size w ok =
    let asked = record_run true 1 at size in
    let next : Recorded → ToolPart TakenBlock = λ r. goes_on doing (writes (as_filed sound.coding r.samples)) (λ _. has_value doing (block_value sound at r)) in
    let a = is_asked asked (as_recorded true size) w (first_ok doing (asks asked (as_recorded true size)) next w ok) in
    let f = follows (asks asked (as_recorded true size)) next w (deeds (request_bytes w.order asked) []) a.value (after_reply w) a.is ok in
    let bytes = as_filed sound.coding a.value.samples in
    let request = request_bytes w.order asked in
    let value = block_value sound at a.value in
    (a.value, a.good, f.is ∙ ap (λ l. outcome (deeds l (bytes ++ [])) (Ok (value, after_reply w))) (append-nil request) ∙ ap (λ l. outcome (deeds request l) (Ok (value, after_reply w))) (append-nil bytes))

ran : (job : RecordJob) (sound : RecordedSound) (lengths : List ℕ) (at : ℕ) (before : Recording) (peaks : List ℕ) (w : ClientState) → IsOk (records job sound at before peaks lengths w).end → Ran sound at lengths w (records job sound at before peaks lengths w)
unfolding records
ran job sound [] at before peaks w ok = record { blocks = []; others = []; are = refl; value = before; end = w; answered = refl; is = refl }
ran job sound (n ∷ more) at before peaks w ok =
    let size = n * recorded_frame sound in
    let next : TakenBlock → ToolPart Recording = λ block. cond (ends_row job (block.peak ∷ peaks)) (has_value doing (recording_on before n block)) (records job sound ((at + n) % 2 ^ 32) (recording_on before n block) (block.peak ∷ peaks) more) in
    let b = block_taken sound at size w (first_ok doing (takes_block sound at size) next w ok) in
    let value = block_value sound at b.0 in
    let did = deeds (request_bytes w.order (record_run true 1 at size)) (as_filed sound.coding b.0.samples) in
    let f = follows (takes_block sound at size) next w did value (after_reply w) b.2 ok in
    let one : TakenOne = record { frames = n; taken = b.0 } in
    later b.0 b.1 value f (ends_row job (value.peak ∷ peaks)) refl (λ ok. ran job sound more ((at + n) % 2 ^ 32) (recording_on before n value) (value.peak ∷ peaks) (after_reply w) ok)
  where
    later : (r : Recorded) → answer_on (record_run true 1 at (n * recorded_frame sound)) (as_recorded true (n * recorded_frame sound)) w ≡ Ok r → (value : TakenBlock) →
        (let next : TakenBlock → ToolPart Recording = λ block. cond (ends_row job (block.peak ∷ peaks)) (has_value doing (recording_on before n block)) (records job sound ((at + n) % 2 ^ 32) (recording_on before n block) (block.peak ∷ peaks) more) in
        Follows (takes_block sound at (n * recorded_frame sound)) next w (deeds (request_bytes w.order (record_run true 1 at (n * recorded_frame sound))) (as_filed sound.coding r.samples)) value (after_reply w) → (t : Bool) → ends_row job (value.peak ∷ peaks) ≡ t →
        (IsOk (records job sound ((at + n) % 2 ^ 32) (recording_on before n value) (value.peak ∷ peaks) more (after_reply w)).end →
        Ran sound ((at + n) % 2 ^ 32) more (after_reply w) (records job sound ((at + n) % 2 ^ 32) (recording_on before n value) (value.peak ∷ peaks) more (after_reply w))) →
        Ran sound at (n ∷ more) w (goes_on doing (takes_block sound at (n * recorded_frame sound)) next w))
    later r good value f true row again =
        let request = request_bytes w.order (record_run true 1 at (n * recorded_frame sound)) in
        let did = deeds request (as_filed sound.coding r.samples) in
        record {
          blocks = record { frames = n; taken = r } ∷ [];
          others = more;
          are = refl;
          value = recording_on before n value;
          end = after_reply w;
          answered = (good, refl);
          is = f.is ∙ ap (λ (t : Bool). after_deeds doing did (cond {A = ToolPart Recording} t (has_value doing (recording_on before n value)) (records job sound ((at + n) % 2 ^ 32) (recording_on before n value) (value.peak ∷ peaks) more) (after_reply w))) row;
        }
    later r good value f false row again =
        let request = request_bytes w.order (record_run true 1 at (n * recorded_frame sound)) in
        let did = deeds request (as_filed sound.coding r.samples) in
        let rest = records job sound ((at + n) % 2 ^ 32) (recording_on before n value) (value.peak ∷ peaks) more in
        let a = again (subst (λ (t : Bool). IsOk (cond {A = ToolPart Recording} t (has_value doing (recording_on before n value)) rest (after_reply w)).end) row f.last) in
        record {
          blocks = record { frames = n; taken = r } ∷ a.blocks;
          others = a.others;
          are = ap (λ l. n ∷ l) a.are;
          value = a.value;
          end = a.end;
          answered = (good, a.answered);
          is = f.is ∙ ap (λ (t : Bool). after_deeds doing did (cond {A = ToolPart Recording} t (has_value doing (recording_on before n value)) rest (after_reply w))) row ∙ ap (after_deeds doing did) a.is;
        }

-- A job

-- a job that was done: its context was made, the time told, its blocks were recorded, and the context was freed
pub record IsDone (job : RecordJob) (device : DeviceInfo) (w : ClientState) (trace : Trace) : Type 0 where
  pub done : Unit {0}
  pub made : answer_on (record_context job device) as_done w ≡ Ok done
  pub now : DevTime
  pub told : answer_on (get_time job.device) as_time (after_reply w) ≡ Ok now
  pub blocks : List TakenOne
  pub others : List ℕ
  pub are : job_lengths job device ≡ map (λ (b : TakenOne). b.frames) blocks ++ others
  pub end : ClientState
  pub answered : AreAnswered (recorded_sound job device) (unwrap_or job.time now.0) blocks (after_reply (after_reply w)) end
  pub sends : trace.sends ≡ request_bytes w.order (record_context job device) ++ (request_bytes w.order (get_time job.device)
      ++ (asked_for w.order (recorded_sound job device) (unwrap_or job.time now.0) blocks ++ request_bytes w.order (free_ac 1)))
  pub pad : List ℕ
  pub output : trace.output ≡ front_of_recording job device ++ (written_of (recorded_sound job device) blocks ++ pad)

-- a trace that has done all came to the value of its part
all_ok : (o : Outcome ToolDeeds (Recording × ClientState) ConnFault) (strict : Bool) → has_done_all (tool_end (trace_of refused o (λ recording. ends (finish_by strict recording.lost))).finish) ≡ true → IsOk o.end
all_ok o strict e = by o.end e
  where
    clash : false ≡ true → ⊥
    clash e = cc

    by : (end : Result (Recording × ClientState) ConnFault) → has_done_all (tool_end (trace_ending refused end (λ recording. ends (finish_by strict recording.lost))).finish) ≡ true → IsOk end
    by (Ok y) e = refl
    by (Err fault.LinkFault) e = absurd (clash e)
    by (Err fault.LinkEnded) e = absurd (clash e)
    by (Err (fault.Spent first)) e = absurd (clash e)
    by (Err (fault.ServerError code value)) e = absurd (clash e)
    by (Err (fault.BadReply header first)) e = absurd (clash e)
    by (Err fault.OutOfMemory) e = absurd (clash e)
    by (Err fault.EventFlood) e = absurd (clash e)

-- a context is made, and the time told
record IsBegun (context : Asked) (d : ℕ) (w : ClientState) : Type 0 where
  done : Unit {0}
  made : answer_on context as_done w ≡ Ok done
  now : DevTime
  told : answer_on (get_time d) as_time (after_reply w) ≡ Ok now
  is : begins context d w ≡ outcome (deeds (request_bytes w.order context ++ request_bytes w.order (get_time d)) []) (Ok (now, after_reply (after_reply w)))

is_begun : (context : Asked) (d : ℕ) (w : ClientState) → IsOk (begins context d w).end → IsBegun context d w
is_begun context d w ok =
    let next : Unit {0} → ToolPart DevTime = λ _. asks (get_time d) as_time in
    let a = is_asked context as_done w (first_ok doing (asks context as_done) next w ok) in
    let f = follows (asks context as_done) next w (deeds (request_bytes w.order context) []) a.value (after_reply w) a.is ok in
    let b = is_asked (get_time d) as_time (after_reply w) f.last in
    record { done = a.value; made = a.good; now = b.value; told = b.good; is = f.is ∙ ap (after_deeds doing (deeds (request_bytes w.order context) [])) b.is }

-- the header, the blocks and the pad
record IsWritten (job : RecordJob) (device : DeviceInfo) (start : ℕ) (w : ClientState) : Type 0 where
  ran : Ran (recorded_sound job device) start (job_lengths job device) w (records_all job (recorded_sound job device) start w)
  pad : List ℕ
  is : writes_recording job device start w ≡ outcome (deeds (asked_for w.order (recorded_sound job device) start ran.blocks) (front_of_recording job device ++ (written_of (recorded_sound job device) ran.blocks ++ pad))) (Ok (ran.value, ran.end))

module _ (job : RecordJob) (device : DeviceInfo) where
  abbrev own : RecordJob
  own = at_rate device.rate job

  abbrev sound : RecordedSound
  sound = recorded_sound own device

  is_written : (start : ℕ) (w : ClientState) → IsOk (writes_recording own device start w).end → IsWritten own device start w
  unfolding goes_on
  is_written start w ok =
      let next : Recording → ToolPart Recording = λ recording. goes_on doing (writes (pad_after own.form (recording.frames * recorded_frame sound))) (λ _. has_value doing recording) in
      let r = ran own sound (job_lengths own device) start nothing_recorded [] w (first_ok doing (records_all own sound start) next w ok) in
      let asked = asked_for w.order sound start r.blocks in
      let written = written_of sound r.blocks in
      let f = follows (records_all own sound start) next w (deeds asked written) r.value r.end r.is ok in
      let front = front_of_recording own device in
      let pad = pad_after own.form (r.value.frames * recorded_frame sound) in
      record {
        ran = r;
        pad = pad ++ [];
        is = ap (after_deeds doing (deeds [] front)) f.is ∙ ap (λ l. outcome (deeds l (front ++ (written ++ (pad ++ [])))) (Ok (r.value, r.end))) (append-nil asked);
      }

  abbrev Trace_of : Outcome ToolDeeds (Recording × ClientState) ConnFault → Trace
  Trace_of o = trace_of refused o (λ recording. ends (finish_by own.strict recording.lost))

  is_done : (w : ClientState) → has_done_all (tool_end (Trace_of (records_on own device w)).finish) ≡ true → IsDone own device w (Trace_of (records_on own device w))
  is_done w all =
      let context = record_context own device in
      let ok = all_ok (records_on own device w) own.strict all in
      let last : Recording → ToolPart Recording = λ recording. goes_on doing (asks (free_ac 1) as_done) (λ _. has_value doing recording) in
      let next : DevTime → ToolPart Recording = λ now. goes_on doing (writes_recording own device (unwrap_or own.time now.0)) last in
      let b = is_begun context own.device w (first_ok doing (begins context own.device) next w ok) in
      let began = request_bytes w.order context ++ request_bytes w.order (get_time own.device) in
      let second = after_reply (after_reply w) in
      let start = unwrap_or own.time b.now.0 in
      let f = follows (begins context own.device) next w (deeds began []) b.now second b.is ok in
      let m = is_written start second (first_ok doing (writes_recording own device start) last second f.last) in
      let asked = asked_for w.order sound start m.ran.blocks in
      let written = front_of_recording own device ++ (written_of sound m.ran.blocks ++ m.pad) in
      let g = follows (writes_recording own device start) last second (deeds asked written) m.ran.value m.ran.end m.is f.last in
      let value : Unit {0} → ToolPart Recording = λ _. has_value doing m.ran.value in
      let c = is_asked (free_ac 1) as_done m.ran.end (first_ok doing (asks (free_ac 1) as_done) value m.ran.end g.last) in
      let free = request_bytes m.ran.end.order (free_ac 1) in
      let h = follows (asks (free_ac 1) as_done) value m.ran.end (deeds free []) c.value (after_reply m.ran.end) c.is g.last in
      let whole : records_on own device w ≡ outcome (deeds (began ++ (asked ++ (free ++ []))) (written ++ [])) (Ok (m.ran.value, after_reply m.ran.end)) =
      f.is ∙ ap (after_deeds doing (deeds began [])) (g.is ∙ ap (after_deeds doing (deeds asked written)) h.is) in
      let ordered : free ≡ request_bytes w.order (free_ac 1) = ap (λ o. request_bytes o (free_ac 1)) (same_order sound start m.ran.blocks second m.ran.end m.ran.answered) in
      record {
        done = b.done;
        made = b.made;
        now = b.now;
        told = b.told;
        blocks = m.ran.blocks;
        others = m.ran.others;
        are = m.ran.are;
        end = m.ran.end;
        answered = m.ran.answered;
        pad = m.pad;
        sends = ap (λ o. (Trace_of o).sends) whole ∙ append-nil (began ++ (asked ++ (free ++ []))) ∙ ap (λ l. began ++ (asked ++ l)) (append-nil free ∙ ordered)
            ∙ append_assoc (request_bytes w.order context) (request_bytes w.order (get_time own.device)) (asked ++ request_bytes w.order (free_ac 1));
        output = ap (λ o. (Trace_of o).output) whole ∙ append-nil (written ++ []) ∙ append-nil written;
      }
    where
      -- its byte order stays
      same_order : (sound : RecordedSound) (at : ℕ) (blocks : List TakenOne) (w end : ClientState) → AreAnswered sound at blocks w end → end.order ≡ w.order
      same_order sound at [] w end h = ap (λ (x : ClientState). x.order) h
      same_order sound at (b ∷ more) w end h = same_order sound ((at + b.frames) % 2 ^ 32) more (after_reply w) end h.1

  pub job_done : (devices : List DeviceInfo) (w : ClientState) → slice_get devices job.device ≡ Some device → has_done_all (tool_end (arecord_trace job devices w).finish) ≡ true → IsDone own device w (arecord_trace job devices w)
  unfolding arecord_trace
  job_done devices w there all =
      let same : arecord_trace job devices w ≡ Trace_of (records_on own device w) = ap (λ o. trace_by (ok_or o (no_device (length devices))) (λ (d : DeviceInfo). trace_of refused (records_on (at_rate d.rate job) d w) (λ recording. ends (finish_by job.strict recording.lost)))) there in
      subst (λ t. IsDone own device w t) (sym same) (is_done w (subst (λ (t : Trace). has_done_all (tool_end t.finish) ≡ true) same all))
