-- If aplay is done, each block was played.
use Rattle.std.proofs.Common.{◌≡◌, ℕ, ◌+◌, ◌*◌, ◌/◌, ◌<◌, ◌≤◌, true, false, Bool, ◌||◌, List, [], ◌∷◌, ◌++◌, length, map, slice_get, sym, ap, ◌∙◌, append-nil, subst, refl, arith, inl, inr, Result, Ok, Err, IsOk, flat_map, ok_or, Option, None, Some}
use Rattle.std.proofs.lemmas.Bool.{cases_lt}
use Rattle.af_time.specs.DeviceTime.{frames_lasting}
use Rattle.af_time.specs.declared.DevTime.{DevTime}
use Rattle.af_sample.specs.Channels.{IsChannelCount}
use Rattle.af_sample.specs.SampleTypes.{frame_bytes}
use Rattle.af_request.specs.Replies.{IsDeviceInfo}
use Rattle.af_cli.proofs.FrameSizeLemmas.{frame_size, some_frames}
use Rattle.af_io.specs.Observed.{Appended}
use Rattle.af_request.specs.declared.reply.DeviceInfo.{DeviceInfo}
use Rattle.af_request.specs.Asked.{Asked, free_ac, get_time, play_run}
use Rattle.af_request.specs.Answer.{Answer}
use Rattle.af_request.specs.Requests.{request_bytes}
use Rattle.af_wire.specs.declared.order.Order.{Order}
use Rattle.af_lib.specs.Calls.{as_done, as_time}
use Rattle.af_toolkit.specs.declared.end.ToolEnd.{ToolEnd}
use Rattle.af_cli.specs.declared.job.PlayJob.{PlayJob}
use Rattle.af_toolkit.specs.Parts.{Outcome, after_deeds, end_among, goes_on, has_value, outcome, part_among}
use Rattle.af_toolkit.proofs.PartLemmas.{first_ok, goes_by}
use Rattle.af_lib.specs.declared.fault.ConnFault.{ConnFault}
use Rattle.af_toolkit.specs.Trace.{Trace, ClientState, Finish, answer_on, after_reply, ends, no_device, sends_first, tool_end, trace_by, writes_first}
use Rattle.af_toolkit.specs.ToolParts.{ToolDeeds, asks, deeds, doing, trace_of}
use Rattle.af_tools.specs.declared.player.Played.{Played}
use Rattle.af_sound.specs.declared.head.Coding.{Coding}
use Rattle.af_tools.specs.declared.sound.SourceSound.{SourceSound}
use Rattle.af_tools.specs.Sounds.{most_bytes, as_served, reads_sound, source_width, stated_part, IsServedAs}
use Rattle.af_sample.specs.declared.sample_type.SampleType.{SampleType}
use Rattle.af_tools.specs.declared.pace.Course.{Course}
use Rattle.af_tools.specs.declared.pace.Pace.{Pace}
use Rattle.af_tools.specs.Pacing.{ahead_frames, awaited, block_time, course_from, course_on, paced_block}
use Rattle.af_tools.proofs.PacingLemmas.{once_done, paced_some}
use Rattle.af_tools.specs.Leaving.{drained, leaves, leaving_bytes}
use Rattle.af_tools.specs.Play.{PlayFault, PlayPart, TimedBlock, aplay_trace, blocks, frames_in, job_pace, of_reply, of_source, pace_from, play_asks, play_context, play_finish, played_text, played_frames, plays_block, plays_on, plays, plays_sound, some_late, start_at, timed_bytes, whole_frames, AreTold, Block, played_whole, sent_blocks, IsPlayed}
use Rattle.af_toolkit.specs.Ends.{ObservedTrace, has_done_all}
use Rattle.af_toolkit.specs.Lost.{finish_by, is_late}
use Rattle.af_tools.proofs.PlayBlockLemmas.{plays_last, plays_long, plays_none, plays_some}
use Rattle.af_tools.proofs.SentBlockLemmas.{frames_sent, sent_first, sent_last, sent_more, sent_no_more, frames_converted, sent_converted, sent_served, served_block}
use Rattle.af_tools.proofs.HeardAsIntendedLemmas.{heard_as_intended}
use Rattle.af_toolkit.proofs.ToolEndLemmas.{IsToEnd, asks_answered, fault_short, is_all, part_ok}
use Rattle.af_tools.proofs.SoundFitLemmas.{sound_done}

-- a request of aplay that came to a value, in a part that begins with it
among_ok : {X : Type 0} (end : Result X ConnFault) → IsOk (end_among of_reply end) → IsOk end
among_ok (Ok x) ok = refl
among_ok (Err f) ok = cc

play_asked : {X Y : Type 0} (asked : Asked) (value_of : Answer → Option X) (next : X → PlayPart Y) (w : ClientState) → IsOk (goes_on doing (play_asks asked value_of) next w).end →
    (x : X) × (answer_on asked value_of w ≡ Ok x) × (goes_on doing (play_asks asked value_of) next w ≡ after_deeds doing (deeds (request_bytes w.order asked) []) (next x (after_reply w))) × IsOk (next x (after_reply w)).end
play_asked {X} {Y} asked value_of next w ok =
    let a = asks_answered asked value_of w (among_ok (asks asked value_of w).end (first_ok doing (play_asks asked value_of) next w ok)) in
    let whole = goes_by doing (play_asks asked value_of) next (ap (λ (o : Outcome ToolDeeds (X × ClientState) ConnFault). outcome o.did (end_among of_reply o.end)) a.2) in
    (a.0, a.1, whole, subst (λ (o : Outcome ToolDeeds (Y × ClientState) PlayFault). IsOk o.end) whole ok)

none_late : (b : Bool) → b ≡ (b || false)
none_late true = refl
none_late false = refl

more_late : (a b c : Bool) → ((a || b) || c) ≡ (a || (b || c))
more_late true b c = refl
more_late false b c = refl

-- blocks that were played
record ArePlayed (coding : Option Coding) (width : ℕ) (pace : Pace) (course : Course) (bs : List (List ℕ)) (w : ClientState) (o : Outcome ToolDeeds (Course × ClientState) PlayFault) : Type 0 where
  timed : List TimedBlock
  sent : map (λ t. t.block) timed ≡ sent_served coding width course.frames bs
  told : AreTold pace course.told w timed
  last : Course
  after : ClientState
  order : after.order ≡ w.order
  all : last.frames ≡ course.frames + frames_sent width bs
  lost : last.late ≡ (course.late || some_late pace timed)
  is : o ≡ outcome (deeds (flat_map (timed_bytes w.order pace) timed) []) (Ok (last, after))

plays_done : (coding : Option Coding) (width : ℕ) (pace : Pace) (course : Course) (given : ℕ) (bs : List (List ℕ)) (w : ClientState) → IsOk (plays coding width pace course given bs w).end → ArePlayed coding width pace course bs w (plays coding width pace course given bs w)
plays_done coding width pace course given [] w ok = record { timed = []; sent = refl; told = tt; last = course; after = w; order = refl; all = omega arith; lost = none_late course.late; is = ap (λ (part : PlayPart Course). part w) (plays_none coding width pace course given) }
plays_done coding width pace course given (block ∷ more) w ok = elim (cases_lt most_bytes (given + length block)) [
  | inl long ↦ absurd (let bad = subst (λ (part : PlayPart Course). IsOk (part w).end) (plays_long coding width pace course given block more long) ok in cc bad)
  | inr fits ↦ elim (cases_lt 0 (length block / width)) [
    | inl some ↦
        let samples : List ℕ = as_served coding (whole_frames width block) in
        let run = play_run false 1 (block_time pace.start.0 course.frames) samples in
        let playing = part_among of_reply (plays_block pace course samples) in
        let next : DevTime → PlayPart Course = λ told. plays coding width pace (course_on pace course (frames_in width block) told) (given + length block) more in
        let e = plays_some coding width pace course given block more fits some in
        let whole = subst (λ (part : PlayPart Course). IsOk (part w).end) e ok in
        let a = once_done pace.frame (awaited pace course) run as_time w (among_ok (plays_block pace course samples w).end (first_ok doing playing next w whole)) in
        let first : TimedBlock = record { block = record { before = course.frames; bytes = samples }; told = course.told; reply = a.0 } in
        let here : List ℕ = timed_bytes w.order pace first in
        let known = goes_by doing playing next (ap (λ (o : Outcome ToolDeeds (DevTime × ClientState) ConnFault). outcome o.did (end_among of_reply o.end)) a.3) in
        let r = plays_done coding width pace (course_on pace course (frames_in width block) a.0) (given + length block) more a.1 (subst (λ (o : Outcome ToolDeeds (Course × ClientState) PlayFault). IsOk o.end) known whole) in
        let counted = sent_more width block more some in
        let there = r.all in
        record {
          timed = first ∷ r.timed;
          sent = ap (λ (l : List Block). first.block ∷ l) r.sent ∙ ap (map (served_block coding)) (sym (sent_first width course.frames block more some));
          told = (refl, a.1, ap (λ (o : Outcome ToolDeeds (DevTime × ClientState) ConnFault). o.end) a.3, r.told);
          last = r.last;
          after = r.after;
          order = r.order ∙ a.2;
          all = omega arith;
          lost = r.lost ∙ more_late course.late (is_late (block_time pace.start.0 course.frames) a.0.0) (some_late pace r.timed);
          is = ap (λ (part : PlayPart Course). part w) e ∙ known ∙ ap (after_deeds doing (deeds here [])) r.is
              ∙ ap (λ (o : Order). outcome {F = PlayFault} (deeds (here ++ flat_map (timed_bytes o pace) r.timed) []) (Ok (r.last, r.after))) a.2;
        }
    | inr none ↦ record {
      timed = [];
      sent = ap (map (served_block coding)) (sym (sent_last width course.frames block more (omega arith)));
      told = tt;
      last = course;
      after = w;
      order = refl;
      all = (let counted = sent_no_more width block more (omega arith) in omega arith);
      lost = none_late course.late;
      is = ap (λ (part : PlayPart Course). part w) (plays_last coding width pace course given block more fits (omega arith));
    }
  ]
]

-- aplay has left its device
left_done : (frame : ℕ) (last : Option ℕ) (w : ClientState) → IsOk (end_among of_reply (leaves frame last w).end) →
    (v : ClientState) × (part_among of_reply (leaves frame last) w ≡ outcome (deeds (leaving_bytes w.order frame last) []) (Ok (tt, v)))
left_done frame last w ok =
    let a = once_done frame last (free_ac 1) as_done w (among_ok (leaves frame last w).end ok) in
    (a.1, ap (λ (o : Outcome ToolDeeds (Unit {0} × ClientState) ConnFault). outcome o.did (end_among of_reply o.end)) a.3)

-- a block has a frame
some_played : (job : PlayJob) (rate : ℕ) (ty : SampleType) (channels : ℕ) → IsChannelCount channels → 1 ≤ job.block → 1 ≤ played_frames job rate ty channels
some_played job rate ty channels count begun = some_frames (paced_block (ahead_frames rate job) job.block) (frame_bytes ty channels) (frame_size ty channels count) (paced_some (ahead_frames rate job) job.block begun)

from_none : (m n : ℕ) → m ≡ 0 + n → m ≡ n
from_none m n is = omega arith

-- a job that is done on a device
record IsDoneOn (job : PlayJob) (sound : SourceSound) (device : DeviceInfo) (samples : List ℕ) (w : ClientState) (o : Outcome ToolDeeds (Played × ClientState) PlayFault) : Type 0 where
  now : DevTime
  told : answer_on (get_time job.device) as_time (after_reply w) ≡ Ok now
  timed : List TimedBlock
  sent : map (λ t. t.block) timed ≡ sent_blocks sound.ty sound.channels (played_frames job device.rate sound.ty sound.channels) samples
  each : AreTold (job_pace job device.rate sound.ty sound.channels now) now (after_reply (after_reply w)) timed
  after : ClientState
  is :
      o ≡ outcome (deeds (played_whole w.order job sound.ty sound.channels (job_pace job device.rate sound.ty sound.channels now) timed (length samples / frame_bytes sound.ty sound.channels)) [])
      (Ok (
        record {
          frames = length samples / frame_bytes sound.ty sound.channels;
          start = (job_pace job device.rate sound.ty sound.channels now).start;
          late = some_late (job_pace job device.rate sound.ty sound.channels now) timed;
        },
        after,
      ))

done_on : (job : PlayJob) (sound : SourceSound) (device : DeviceInfo) (bytes : List ℕ) (w : ClientState) → IsServedAs sound.coding sound.ty → IsChannelCount sound.channels → 1 ≤ job.block → IsOk (plays_on job sound device bytes w).end →
    IsDoneOn job sound device (as_served sound.coding (stated_part sound.length bytes)) w (plays_on job sound device bytes w)
unfolding plays_sound
done_on job sound device bytes w served channels begun ok =
    let coding = sound.coding in
    let width = source_width coding sound.ty sound.channels in
    let count = played_frames job device.rate sound.ty sound.channels in
    let least : 1 ≤ count = some_played job device.rate sound.ty sound.channels channels begun in
    let some : 0 < count = omega arith in
    let part : List ℕ = stated_part sound.length bytes in
    let samples : List ℕ = as_served coding part in
    let cut : List (List ℕ) = blocks (count * width) part in
    let a = play_asked (play_context job sound.ty sound.channels) as_done _ w ok in
    let b = play_asked (get_time job.device) as_time _ (after_reply w) a.3 in
    let pace : Pace = job_pace job device.rate sound.ty sound.channels b.0 in
    let played : ℕ → Bool → Played = λ n late. record { frames = n; start = pace.start; late = late } in
    let playing = plays_sound sound count pace b.0 bytes in
    let leaving : ℕ → PlayPart (Unit {0}) = λ n. part_among of_reply (leaves pace.frame (drained job.drain pace.start.0 n)) in
    let freeing : Course → PlayPart Played = λ course. goes_on doing (leaving course.frames) (λ _. has_value doing (played course.frames course.late)) in
    let v = after_reply (after_reply w) in
    let p = plays_done coding width pace (course_from b.0) sound.head cut v (first_ok doing playing freeing v b.3) in
    let n : ℕ = p.last.frames in
    let late : Bool = p.last.late in
    let whole_p = goes_by doing playing freeing p.is in
    let freed = subst (λ (o : Outcome ToolDeeds (Played × ClientState) PlayFault). IsOk o.end) whole_p b.3 in
    let f = left_done pace.frame (drained job.drain pace.start.0 n) p.after (first_ok doing (leaving n) (λ _. has_value doing (played n late)) p.after freed) in
    let whole_f = goes_by doing (leaving n) (λ _. has_value doing (played n late)) f.1 in
    let all : n ≡ length samples / frame_bytes sound.ty sound.channels = from_none n (frames_sent width cut) p.all ∙ frames_converted coding sound.ty sound.channels count part served channels some in
    let context : List ℕ = request_bytes w.order (play_context job sound.ty sound.channels) in
    let time : List ℕ = request_bytes w.order (get_time job.device) in
    let plays : List ℕ = flat_map (timed_bytes w.order pace) p.timed in
    let end : List ℕ → ℕ → Bool → Outcome ToolDeeds (Played × ClientState) PlayFault = λ free n late. outcome (deeds (context ++ (time ++ (plays ++ free))) []) (Ok (played n late, f.0)) in
    let bytes_for : Order → ℕ → List ℕ = λ o n. leaving_bytes o pace.frame (drained job.drain pace.start.0 n) in
    record {
      now = b.0;
      told = b.1;
      timed = p.timed;
      sent = p.sent ∙ sent_converted coding sound.ty sound.channels count part served channels some;
      each = p.told;
      after = f.0;
      is = a.2 ∙ ap (after_deeds doing (deeds context [])) (b.2 ∙ ap (after_deeds doing (deeds time [])) (whole_p ∙ ap (after_deeds doing (deeds plays [])) whole_f))
          ∙ ap (λ (l : List ℕ). end l n late) (append-nil (bytes_for p.after.order n) ∙ ap (λ (o : Order). bytes_for o n) p.order)
          ∙ ap (λ (k : ℕ). end (bytes_for w.order k) k late) all
          ∙ ap (λ (b : Bool). end (bytes_for w.order (length samples / frame_bytes sound.ty sound.channels)) (length samples / frame_bytes sound.ty sound.channels) b) p.lost;
    }

-- no cause for which playing ends early goes to the end
play_short : (cause : PlayFault) → IsToEnd (play_finish cause) → ⊥
play_short (of_reply f) is = fault_short f is
play_short of_source is = cc

-- a tool on a device that has to exist
abbrev pub on_device : Option DeviceInfo → ℕ → (DeviceInfo → Trace) → Trace
on_device o n next = trace_by (ok_or o (no_device n)) next

pub on_device_done : (o : Option DeviceInfo) (n : ℕ) (next : DeviceInfo → Trace) → IsToEnd (on_device o n next).finish → (device : DeviceInfo) × (o ≡ Some device) × (on_device o n next ≡ next device)
on_device_done (Some device) n next way = (device, refl, refl)
on_device_done None n next way = absurd (cc)

pub is_played : (job : PlayJob) (devices : List DeviceInfo) (bytes : List ℕ) (w : ClientState) (how : ToolEnd) (s s' h h' : Option (List ℕ)) →
    ObservedTrace (aplay_trace job devices bytes w) how s s' h h' → has_done_all how ≡ true → 1 ≤ job.block →
    ((d : DeviceInfo) → slice_get devices job.device ≡ Some d → IsDeviceInfo d) → IsPlayed job devices bytes w how s s' h h'
unfolding aplay_trace
is_played job devices bytes w how s s' h h' followed way some stated =
    let all = is_all followed.ended way in
    let finish = all.finish in
    let reporting = λ (p : Played). writes_first (played_text p.frames p.start.0) (ends (finish_by job.strict p.late)) in
    let ending = λ (o : Outcome ToolDeeds (Played × ClientState) PlayFault). trace_of play_finish o reporting in
    let playing = λ (device : DeviceInfo) (given : SourceSound × List ℕ). ending (plays_on job given.0 device given.1 w) in
    let d = on_device_done (slice_get devices job.device) (length devices) (λ device. trace_by (reads_sound job.form job device bytes) (playing device)) finish in
    let device = d.0 in
    let g = sound_done job.form job device bytes (playing device) (subst (λ (c : Trace). IsToEnd c.finish) d.2 finish) in
    let sound = g.sound in
    let goes = ap (λ (r : Result (SourceSound × List ℕ) Finish). trace_by r (playing device)) g.is in
    let samples : List ℕ = as_served sound.coding (stated_part sound.length g.rest) in
    let count : IsChannelCount device.channels = (stated device d.1).channels in
    let alike : sound.channels ≡ device.channels = g.read.channels in
    let ok = part_ok IsToEnd play_finish play_short (plays_on job sound device g.rest w).end reporting (subst (λ (c : Trace). IsToEnd c.finish) (d.2 ∙ goes) finish) in
    let p = done_on job sound device g.rest w g.read.served (subst IsChannelCount (sym alike) count) some ok in
    let start = start_at job.time p.now.0 (frames_lasting device.rate job.lead) in
    let frames : ℕ → ℕ = λ channels. length samples / frame_bytes sound.ty channels in
    let pace : ℕ → Pace = λ channels. pace_from job device.rate sound.ty channels start in
    let sends : ℕ → List ℕ = λ channels. played_whole w.order job sound.ty channels (pace channels) p.timed (frames channels) in
    let is = d.2 ∙ goes ∙ ap ending p.is ∙ ap (λ (n : ℕ). sends_first (sends n) (writes_first (played_text (frames n) start) (ends (finish_by job.strict (some_late (pace n) p.timed))))) alike in
    record {
      device = device;
      is_there = d.1;
      ty = sound.ty;
      samples = samples;
      gives = g.read.gives;
      now = p.now;
      told = p.told;
      start = start;
      starts = refl;
      blocks = p.timed;
      are_sent = subst (λ (n : ℕ). map (λ (t : TimedBlock). t.block) p.timed ≡ sent_blocks sound.ty n (played_frames job device.rate sound.ty n) samples) alike p.sent;
      are_told = subst (λ (n : ℕ). AreTold (pace n) p.now (after_reply (after_reply w)) p.timed) alike p.each;
      ended = all.way ∙ ap (λ (c : Trace). tool_end c.finish) is;
      link = subst (λ (b : List ℕ). Appended s b s') (all.sent ∙ ap (λ (c : Trace). c.sends) is ∙ append-nil (sends device.channels)) followed.link;
      sink = subst (λ (b : List ℕ). Appended h b h') (all.wrote ∙ ap (λ (c : Trace). c.output) is ∙ append-nil (played_text (frames device.channels) start)) followed.sink;
      hears = λ first accepted same a i c low few.
          let least : 1 ≤ played_frames job device.rate sound.ty device.channels = some_played job device.rate sound.ty device.channels count some in
          heard_as_intended sound.ty device.channels job.gain (played_frames job device.rate sound.ty device.channels) samples first accepted count (omega arith) a i c low few;
    }
