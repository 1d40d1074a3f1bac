-- aplay has made its context, and reads a sound in step with what it sends.
use Rattle.std.proofs.Common.{◌≡◌, ◌⊎◌, ℕ, ◌≤◌, List, [], ◌∷◌, ◌++◌, length, length-take-le, slice_get, take, sym, ap, ◌∙◌, refl, subst, arith, append-nil, inl, inr, IsErrOf, IsSome, Result, Ok, Err, Option, None, Some}
use Rattle.std.proofs.lemmas.Bool.{cases_lt}
use Rattle.af_time.specs.declared.DevTime.{DevTime}
use Rattle.af_io.specs.Observed.{Appended, Consumed}
use Rattle.af_io.specs.Flow.{AppendedPrefix, IsSpent}
use Rattle.af_io.proofs.AppendedLemmas.{appended_on}
use Rattle.af_io.proofs.ConsumedLemmas.{consumed_none}
use Rattle.af_request.specs.declared.reply.DeviceInfo.{DeviceInfo}
use Rattle.af_request.specs.Answer.{Answer}
use Rattle.af_request.specs.Asked.{Asked, get_time}
use Rattle.af_request.specs.Requests.{request_bytes}
use Rattle.af_lib.specs.Calls.{ConnState, as_done, as_time}
use Rattle.af_lib.specs.declared.fault.ConnFault.{ConnFault}
use Rattle.af_cli.specs.declared.job.PlayJob.{PlayJob}
use Rattle.af_toolkit.specs.Parts.{Goes, Outcome}
use Rattle.af_toolkit.specs.declared.end.ToolEnd.{ToolEnd}
use Rattle.af_toolkit.specs.declared.end.ToolEnd.TheVariants as end
use Rattle.af_toolkit.specs.Trace.{ClientState, refused}
use Rattle.af_toolkit.specs.Ends.{client_of}
use Rattle.af_toolkit.specs.ToolParts.{IsClientOf, ToolDeeds, ToolSight, asks, tool_sight, tooling}
use Rattle.af_tools.specs.declared.sound.SourceSound.{SourceSound}
use Rattle.af_tools.specs.Sounds.{block_bytes}
use Rattle.af_tools.specs.declared.pace.Course.{Course}
use Rattle.af_tools.specs.declared.pace.Pace.{Pace}
use Rattle.af_tools.specs.Pacing.{course_from}
use Rattle.af_tools.specs.Play.{PlayFault, PlayPart, job_pace, play_asks, play_context, played_frames, plays_sound}
use Rattle.af_tools.specs.Reading.{left_before, IsEarlyBlock, IsFirstBlock, SoundCame}
use Rattle.af_tools.specs.Steps.{HasFirst, PlaysInStep, PlaysSource, ReadsInStep, WentThrough, plays_before, plays_so_far}
use Rattle.af_tools.proofs.EndLemmas.{err_of, of_err}
use Rattle.af_tools.proofs.InStepLemmas.{went_on, went_then}
use Rattle.af_tools.proofs.PlayStepLemmas.{play_goes}
use Rattle.af_tools.proofs.SourceCountLemmas.{consumed_first}

-- of a request, all was sent, or the first of it
pub sent_request : {X : Type 0} (asked : Asked) (value_of : Answer → Option X) (result : Result X ToolEnd) {o p : ToolSight} {w : ClientState} → Goes (tooling refused) (asks asked value_of) result o p → IsClientOf o.link w →
    AppendedPrefix o.link.sent (request_bytes w.order asked) p.link.sent
unfolding asks
sent_request {X} asked value_of (Ok x) {w = w} g stands =
    let c = g.came w stands in
    record { front = c.2.sends; rest = []; whole = ap (λ (b : Outcome ToolDeeds (X × ClientState) ConnFault). b.did.sends) c.3 ∙ sym (append-nil c.2.sends); appended = c.4.0 }
sent_request {X} asked value_of (Err how) {w = w} g stands =
    let c = g.came w stands in
    elim c.1 [
      | inl outer ↦ record { front = c.0.sends; rest = outer.1.0.sends; whole = ap (λ (d : ToolDeeds). d.sends) outer.1.1; appended = c.2.0 }
      | inr ended ↦ record { front = c.0.sends; rest = []; whole = ap (λ (b : Outcome ToolDeeds (X × ClientState) ConnFault). b.did.sends) ended.2 ∙ sym (append-nil c.0.sends); appended = c.2.0 }
    ]

pub told_some : {A : Type 0} (x : Option A) → IsSome x → (y : A) × (x ≡ Some y)
told_some None told = cc told
told_some (Some y) told = (y, refl)

-- the same end of another part
pub same_failed : {X Y : Type 0} {how : ToolEnd} {result : Result X ToolEnd} → result ≡ Err how → IsErrOf result end.ReadFault → IsErrOf {T = Y} (Err how) end.ReadFault
same_failed {X} {how = how} same bad = err_of how end.ReadFault (of_err how end.ReadFault (subst (λ (r : Result X ToolEnd). IsErrOf r end.ReadFault) same bad))

-- what was read early: the first block, or nothing
pub record EarlyRead (sound : SourceSound) (frames : ℕ) (early : Option ℕ) (left left' : Option (List ℕ)) : Type 0 where
  pub ahead : List ℕ
  pub read : Consumed left ahead left'
  pub few : length ahead ≤ block_bytes sound frames
  pub first : HasFirst sound frames (length ahead) left' ⊎ (early ≡ None)

pub early_read : (sound : SourceSound) (frames allowed : ℕ) (early : Option ℕ) (room : List ℕ) (left left' : Option (List ℕ)) → block_bytes sound frames ≤ length room → IsEarlyBlock (block_bytes sound frames) allowed sound.length early room left left' → EarlyRead sound frames early left left'
early_read sound frames allowed None room left left' large is = record { ahead = []; read = subst (λ (o : Option (List ℕ)). Consumed left [] o) (sym is) (consumed_none left); few = omega arith; first = inr refl }
early_read sound frames allowed (Some n) room left left' large is =
    let next = is.next in
    let within = next.within in
    let full : length (take n room) ≡ n = length-take-le n room (omega arith) in
    record {
      ahead = take n room;
      read = is.consumed;
      few = omega arith;
      first = inl (elim (cases_lt n (block_bytes sound frames)) [
        | inl short ↦ inr (subst (λ (k : ℕ). IsSpent left' ⊎ (sound.length ≡ Some k)) (sym full) (next.ended short))
        | inr whole ↦ inl (omega arith)
      ]);
    }

-- after the time was asked for, blocks were played, or none
module _ (job : PlayJob) (sound : SourceSound) (device : DeviceInfo) {now : DevTime} {block : ℕ} {pace : Pace} (same : block ≡ played_frames job device.rate sound.ty sound.channels) (paced : pace ≡ job_pace job device.rate sound.ty sound.channels now) {v u : ClientState} {did : ToolDeeds}
    (is : play_asks (get_time job.device) as_time v ≡ (let b : Outcome ToolDeeds (DevTime × ClientState) PlayFault = record { did = did; end = Ok (now, u) } in b)) {a d : Option (List ℕ)} (first : Appended a did.sends d) {q' : Option (List ℕ)} where
  some_played : (b : ℕ) (bytes more : List ℕ) → WentThrough (plays_sound sound block pace now (b ∷ bytes)) u more d q' → WentThrough (plays_so_far job sound device (b ∷ bytes)) v more a q'
  some_played b bytes more went =
      let next : DevTime → PlayPart Course = λ now. plays_sound sound (played_frames job device.rate sound.ty sound.channels) (job_pace job device.rate sound.ty sound.channels now) now (b ∷ bytes) in
      went_on (play_asks (get_time job.device) as_time) next more is first
      (subst (λ (n : ℕ). WentThrough (plays_sound sound n (job_pace job device.rate sound.ty sound.channels now) now (b ∷ bytes)) u more d q') same
      (subst (λ (p : Pace). WentThrough (plays_sound sound block p now (b ∷ bytes)) u more d q') paced went))

  pub so_far : (played : List ℕ) → (more : List ℕ) × WentThrough (plays_sound sound block pace now played) u more d q' → (more : List ℕ) × WentThrough (plays_so_far job sound device played) v more a q'
  so_far [] past =
      let sends = (plays_sound sound block pace now [] u).did.sends ++ past.0 in
      (did.sends ++ sends, record { value = (course_from (record { 0 = 0 }), v); replied = refl; link = appended_on a d q' did.sends sends first past.1.link })
  so_far (b ∷ bytes) past = (past.0, some_played b bytes past.0 past.1)

  pub so_far_here : (played : List ℕ) → 1 ≤ length played → WentThrough (plays_sound sound block pace now played) u [] d q' → WentThrough (plays_so_far job sound device played) v [] a q'
  so_far_here [] some went = absurd (omega arith)
  so_far_here (b ∷ bytes) some went = some_played b bytes [] went

module _ (job : PlayJob) (sound : SourceSound) (device : DeviceInfo) {failed late : Type 0} {left left' : Option (List ℕ)} {o p : ToolSight} {w : ClientState}
    (made : Goes (tooling refused) (asks (play_context job sound.ty sound.channels) as_done) (Ok tt) o p) (stands : IsClientOf o.link w) where
  -- no block was played yet
  pub begun : (ahead : List ℕ) → Consumed left ahead left' → length ahead ≤ block_bytes sound (played_frames job device.rate sound.ty sound.channels) → {q' : Option (List ℕ)} → (failed → Appended p.link.sent [] q') →
      ((v : ClientState) → IsClientOf p.link v → (more : List ℕ) × Appended p.link.sent more q') → HasFirst sound (played_frames job device.rate sound.ty sound.channels) (length ahead) left' ⊎ late →
      ReadsInStep sound (played_frames job device.rate sound.ty sound.channels) (plays_before job sound device) w failed late left left' o.link.sent q'
  begun ahead read few {q'} still more first =
      let c = (play_goes made).came w stands in
      let m = more c.0 c.1 in
      let made_first : (more : List ℕ) → Appended p.link.sent more q' → WentThrough (plays_before job sound device []) w more o.link.sent q' = λ more then.
      went_on (play_asks (play_context job sound.ty sound.channels) as_done) (λ _. plays_so_far job sound device []) more c.3 c.4.0 (record { value = (course_from (record { 0 = 0 }), c.0); replied = refl; link = then }) in
      record { played = []; ahead = ahead; read = read; one_block = few; past = (m.0, made_first m.0 m.1); stopped = λ bad. made_first [] (still bad); first = first }

  -- blocks were played
  module _ {L : Type 0} (left_of sent_of : L → Option (List ℕ)) {now : DevTime} (conn : ConnState L) (timed : Goes (tooling refused) (asks (get_time job.device) as_time) (Ok now) p (tool_sight left_of sent_of conn None)) {block : ℕ} {pace : Pace}
      (same : block ≡ played_frames job device.rate sound.ty sound.channels) (paced : pace ≡ job_pace job device.rate sound.ty sound.channels now) where
    pub played_step : {room allowed n : ℕ} {len : Option ℕ} {bytes : List ℕ} {middle : Option (List ℕ)} → IsFirstBlock room allowed len n bytes left middle → {failed' : Type 0} → (failed → failed') → {sent' q' : Option (List ℕ)} →
        ((input : List ℕ) → left_of conn.link ≡ Some input → (steps : ReadsInStep sound block (plays_sound sound block pace now) (client_of conn input) failed' ⊥ (left_before (take n bytes) middle) left' (sent_of conn.link) sent') × (failed' → 1 ≤ length steps.played)) →
        (failed → Appended sent' [] q') → (last : List ℕ) → Appended sent' last q' → ReadsInStep sound (played_frames job device.rate sound.ty sound.channels) (plays_before job sound device) w failed late left left' o.link.sent q'
    played_step {n = n} {bytes = bytes} {middle} had is_failed {sent'} {q'} step still last then =
        let c = (play_goes made).came w stands in
        let d = (play_goes timed).came c.0 c.1 in
        let t = step d.1.0 d.1.1 in
        let s = t.0 in
        let client = sym d.1.2 in
        let past = subst (λ (u : ClientState). WentThrough (plays_sound sound block pace now s.played) u s.past.0 (sent_of conn.link) sent') client s.past.1 in
        let more = so_far job sound device same paced d.3 d.4.0 s.played (s.past.0 ++ last, went_then last past then) in
        record {
          played = s.played;
          ahead = s.ahead;
          read = consumed_first left middle left' (take n bytes) (s.played ++ s.ahead) had.consumed s.read;
          one_block = subst (λ (k : ℕ). length s.ahead ≤ block_bytes sound k) same s.one_block;
          past = (more.0, went_on (play_asks (play_context job sound.ty sound.channels) as_done) (λ _. plays_so_far job sound device s.played) more.0 c.3 c.4.0 more.1);
          stopped = λ bad.
              let here = subst (λ (u : ClientState). WentThrough (plays_sound sound block pace now s.played) u [] (sent_of conn.link) sent') client (s.stopped (is_failed bad)) in
              went_on (play_asks (play_context job sound.ty sound.channels) as_done) (λ _. plays_so_far job sound device s.played) [] c.3 c.4.0 (so_far_here job sound device same paced d.3 d.4.0 s.played (t.1 (is_failed bad)) (went_then [] here (still bad)));
          first = elim s.first [
            | inl has ↦ inl (subst (λ (k : ℕ). HasFirst sound k (length (s.played ++ s.ahead)) left') same has)
            | inr none ↦ absurd none
          ];
        }

-- the same for a weaker cause
pub steps_for : (job : PlayJob) {sound : SourceSound} (device : DeviceInfo) {w : ClientState} {failed failed' : Type 0} {left left' sent sent' : Option (List ℕ)} → (failed' → failed) → PlaysInStep job sound device w failed left left' sent sent' → PlaysInStep job sound device w failed' left left' sent sent'
steps_for job device weaker (inl none) = inl none
steps_for job device weaker (inr s) = inr (record {
  played = s.played;
  ahead = s.ahead;
  read = s.read;
  one_block = s.one_block;
  past = s.past;
  stopped = λ bad. s.stopped (weaker bad.0, bad.1);
  first = s.first;
})

-- what a source gives was played so far
pub played_source : {job : PlayJob} {devices : List DeviceInfo} {device : DeviceInfo} {bytes : List ℕ} {sound : SourceSound} {w : ClientState} {failed failed' : Type 0} {left left' sent sent' : Option (List ℕ)} → slice_get devices job.device ≡ Some device →
    SoundCame job device bytes (Ok sound) left → (failed' → failed) → PlaysInStep job sound device w failed left left' sent sent' → PlaysSource job devices bytes w failed' left' sent sent'
played_source {job} {device = device} {sound = sound} {w} {failed' = failed'} {left' = left'} {sent} {sent'} there came weaker steps = record {
  device = device;
  is_there = there;
  sound = sound;
  rest = came.0;
  gives = came.2;
  steps = subst (λ (o : Option (List ℕ)). PlaysInStep job sound device w failed' o left' sent sent') came.1 (steps_for job device weaker steps);
}
