-- The trace of aplay goes to its end or is refused, if its source does not give too much.
use Rattle.std.proofs.Common.{◌≡◌, ℕ, zero, suc, ◌+◌, ◌*◌, ◌/◌, ◌≤◌, nat_lt, Bool, true, false, List, [], ◌∷◌, length, take, drop, refl, arith, inl, inr, ◌⊎◌, if◌then◌else◌, length-take, length-drop, Option, None, Some, Result, Ok, Err}
use Rattle.std.specs.Prelude.{⊤}
use Rattle.std.proofs.lemmas.Bool.Decides.{nat_tests}
use Rattle.af_toolkit.specs.Parts.{answered, end_among, followed, goes_on, has_value, part_among}
use Rattle.af_request.specs.declared.reply.DeviceInfo.{DeviceInfo}
use Rattle.af_request.specs.Asked.{Asked, get_time}
use Rattle.af_request.specs.Answer.{Answer}
use Rattle.af_lib.specs.declared.fault.ConnFault.{ConnFault}
use Rattle.af_lib.specs.Calls.{as_done, as_time}
use Rattle.af_cli.specs.declared.job.PlayJob.{PlayJob}
use Rattle.af_toolkit.specs.Trace.{Trace, ClientState, Finish, after_reply, answer_on, done, refused, sound_lost}
use Rattle.af_toolkit.specs.ToolParts.{ToolDeeds, asks, doing, trace_ending}
use Rattle.af_toolkit.proofs.ToolEndLemmas.{IsDoneOrRefused}
use Rattle.af_toolkit.specs.Lost.{finish_by}
use Rattle.af_toolkit.specs.Ends.{IsKept}
use Rattle.af_sound.specs.declared.head.Coding.{Coding}
use Rattle.af_tools.specs.declared.player.Played.{Played}
use Rattle.af_tools.specs.declared.sound.SourceSound.{SourceSound}
use Rattle.af_tools.specs.Sounds.{most_bytes, as_served, stated_part}
use Rattle.af_time.specs.declared.DevTime.{DevTime}
use Rattle.af_tools.specs.declared.pace.Course.{Course}
use Rattle.af_tools.specs.declared.pace.Pace.{Pace}
use Rattle.af_tools.specs.Pacing.{course_from, course_on}
use Rattle.af_tools.specs.Play.{PlayFault, PlayPart, blocks, cut_blocks, job_pace, of_reply, of_source, play_asks, play_context, play_finish, plays_on, plays, plays_block, plays_sound}
use Rattle.af_tools.specs.Leaving.{drained, leaves}
use Rattle.af_sample.specs.SampleTypes.{frame_bytes}

-- a tool did all, or a request was refused; it ends for lost sound only if it is strict
abbrev pub IsOver : (strict : Bool) → Finish → Type 0
IsOver strict finish = (finish ≡ done) ⊎ (((strict ≡ true) × (finish ≡ sound_lost)) ⊎ ((f : ConnFault) × (finish ≡ refused f)))

pub over_by : (strict lost : Bool) → IsOver strict (finish_by strict lost)
over_by true true = inr (inl (refl, refl))
over_by true false = inl refl
over_by false lost = inl refl

-- if no sound was lost, it is done or was refused
pub kept_done : (strict : Bool) (trace : Trace) → IsOver strict trace.finish → IsKept strict trace → IsDoneOrRefused trace.finish
kept_done strict trace (inl is) kept = inl is
kept_done strict trace (inr (inl lost)) kept = absurd (kept lost.0 lost.1)
kept_done strict trace (inr (inr r)) kept = inr r

pub part_over : {X : Type 0} (strict : Bool) (end : Result (X × ClientState) ConnFault) (next : X → Trace) → ((x : X) → IsOver strict (next x).finish) → IsOver strict (trace_ending refused end next).finish
part_over strict (Ok y) next more = more y.0
part_over strict (Err f) next more = inr (inr (f, refl))

-- a part of aplay does not end for the source
abbrev IsFit : {X : Type 0} → Result X PlayFault → Type 0
IsFit (Err of_source) = ⊥
IsFit end = ⊤

fit_followed : {X Y : Type 0} (did : ToolDeeds) (end : Result (X × ClientState) PlayFault) (next : X → PlayPart Y) → IsFit end → ((x : X) (v : ClientState) → IsFit (next x v).end) → IsFit (followed doing did end (λ y. next y.0 y.1)).end
fit_followed did (Ok y) next first more = more y.0 y.1
fit_followed did (Err fault) next first more = first

fit_on : {X Y : Type 0} (part : PlayPart X) (next : X → PlayPart Y) (w : ClientState) → IsFit (part w).end → ((x : X) (v : ClientState) → IsFit (next x v).end) → IsFit (goes_on doing part next w).end
unfolding goes_on
fit_on part next w first more = fit_followed (part w).did (part w).end next first more

fit_answered : {X : Type 0} (answer : Result X ConnFault) (v : ClientState) → IsFit (end_among of_reply (answered answer v))
fit_answered (Ok x) v = tt
fit_answered (Err f) v = tt

-- a part of the tool alone never ends for its source
fit_named : {X : Type 0} (end : Result X ConnFault) → IsFit (end_among of_reply end)
fit_named (Ok x) = tt
fit_named (Err f) = tt

fit_asks : {X : Type 0} (asked : Asked) (value_of : Answer → Option X) (w : ClientState) → IsFit (play_asks asked value_of w).end
unfolding asks
fit_asks asked value_of w = fit_answered (answer_on asked value_of w) (after_reply w)

fit_if : {X : Type 0} (b : Bool) (c d : PlayPart X) (w : ClientState) → IsFit (c w).end → IsFit (d w).end → (let part : PlayPart X = if b then c else d in IsFit (part w).end)
fit_if true c d w p q = p
fit_if false c d w p q = q

plays_fit : (coding : Option Coding) (width : ℕ) (pace : Pace) (n size : ℕ) (course : Course) (given : ℕ) (bytes : List ℕ) (w : ClientState) → given + length bytes ≤ most_bytes → IsFit (plays coding width pace course given (cut_blocks n size bytes) w).end
unfolding plays
plays_fit coding width pace zero size course given bytes w within = tt
plays_fit coding width pace (suc n) size course given [] w within = tt
plays_fit coding width pace (suc n) size course given (b ∷ bytes) w within =
    let block = take size (b ∷ bytes) in
    let rest = drop size (b ∷ bytes) in
    let len = length-take size (b ∷ bytes) in
    let left = length-drop size (b ∷ bytes) in
    let fits : nat_lt most_bytes (given + length block) ≡ false = grind (arith, nat_tests) in
    let more : DevTime → PlayPart Course = λ told. plays coding width pace (course_on pace course (length block / width) told) (given + length block) (cut_blocks n size rest) in
    let playing = plays_block pace course (as_served coding (take (length block / width * width) block)) in
    rw fits (fit_if (nat_lt 0 (length block / width)) (goes_on doing (part_among of_reply playing) more) (has_value doing course) w
    (fit_on (part_among of_reply playing) more w (fit_named (playing w).end) (λ told v. plays_fit coding width pace n size (course_on pace course (length block / width) told) (given + length block) rest v (omega arith))) tt)

part_few : (of : Option ℕ) (bytes : List ℕ) → length (stated_part of bytes) ≤ length bytes
part_few None bytes = omega arith
part_few (Some n) bytes = omega (arith, length-take n bytes)

sound_fit : (sound : SourceSound) (frames : ℕ) (pace : Pace) (told : DevTime) (bytes : List ℕ) (w : ClientState) → sound.head + length bytes ≤ most_bytes → IsFit (plays_sound sound frames pace told bytes w).end
unfolding plays_sound blocks
sound_fit sound frames pace told bytes w within = plays_fit _ _ pace (length (stated_part sound.length bytes)) _ (course_from told) sound.head (stated_part sound.length bytes) w (let few = part_few sound.length bytes in omega arith)

finish_fit : {X : Type 0} (strict : Bool) (end : Result (X × ClientState) PlayFault) (next : X → Trace) → IsFit end → ((x : X) → IsOver strict (next x).finish) → IsOver strict (trace_ending play_finish end next).finish
finish_fit strict (Ok y) next fit more = more y.0
finish_fit strict (Err (of_reply f)) next fit more = inr (inr (f, refl))
finish_fit strict (Err of_source) next fit more = absurd fit

pub played_finish : (job : PlayJob) (sound : SourceSound) (device : DeviceInfo) (bytes : List ℕ) (w : ClientState) (next : Played → Trace) → sound.head + length bytes ≤ most_bytes → ((x : Played) → IsOver job.strict (next x).finish) →
    IsOver job.strict (trace_ending play_finish (plays_on job sound device bytes w).end next).finish
played_finish job sound device bytes w next within more =
    finish_fit job.strict (plays_on job sound device bytes w).end next
    (fit_on _ _ w (fit_asks (play_context job sound.ty sound.channels) as_done w) (λ _ v.
    fit_on _ _ v (fit_asks (get_time job.device) as_time v) (λ now v.
    fit_on _ _ v (sound_fit sound _ _ now bytes v within) (λ course v.
    fit_on _ _ v (fit_named (leaves (frame_bytes sound.ty sound.channels) (drained job.drain (job_pace job device.rate sound.ty sound.channels now).start.0 course.frames) v).end) (λ _ v. tt))))) more
