-- A relay that is done passed all blocks.
use Rattle.std.proofs.Common.{◌≡◌, ◌<◌, ◌≤◌, ◌+◌, ◌-◌, ◌*◌, ◌%◌, ◌^◌, ◌==◌, ◌-ℤ◌, ℕ, ℤ, pos, zero, suc, negsuc, int_lt, nat_lt, unsigned_abs, Bool, true, false, ◌&&◌, List, [], ◌∷◌, ◌++◌, length, map, slice_get, sym, ap, ap₂, ◌∙◌, subst, refl, append_assoc, append-nil, if◌then◌else◌, arith, to_z-of_z}
use Rattle.std.proofs.lemmas.Int.{ints}
use Rattle.std.proofs.lemmas.Bool.Decides.{nat_tests}
use Rattle.std.specs.Int.{w32, cast_signed, cast_unsigned}
use Rattle.std.proofs.lemmas.Nat.{mul-le}
use Rattle.std.specs.Prelude.{Result, Ok, Err, IsOk, Option, None, Some}
use Rattle.af_time.specs.declared.DevTime.{DevTime}
use Rattle.af_time.specs.DeviceTime.{frames_lasting, word_difference}
use Rattle.af_sample.specs.declared.sample_type.SampleType.{SampleType}
use Rattle.af_request.specs.declared.reply.DeviceInfo.{DeviceInfo}
use Rattle.af_wire.specs.declared.order.Order.{Order}
use Rattle.af_request.specs.Asked.{Asked, free_ac, get_time, play_run, record_run}
use Rattle.af_request.specs.Answer.{Answer}
use Rattle.af_request.specs.Requests.{request_bytes}
use Rattle.af_request.specs.Replies.{IsDeviceInfo}
use Rattle.af_request.proofs.ReplyRoundTrips.{rate_below}
use Rattle.af_lib.specs.declared.fault.ConnFault.{ConnFault}
use Rattle.af_lib.specs.Calls.{as_done, as_recorded, as_time, Recorded}
use Rattle.af_toolkit.specs.declared.end.ToolEnd.{ToolEnd}
use Rattle.af_cli.specs.declared.job.PassJob.{PassJob}
use Rattle.af_relay.specs.RelayParts.{RelayDid, SendsBoth}
use Rattle.af_relay.specs.declared.pass.RelayPace.{RelayPace}
use Rattle.af_relay.specs.declared.pass.RelayProgress.{RelayProgress}
use Rattle.af_relay.specs.declared.pass.PlayMoment.{PlayMoment}
use Rattle.af_relay.specs.declared.pass.LastFrame.{LastFrame}
use Rattle.af_relay.specs.declared.pass.LastFrame.TheVariants.{Once, Twice, LeftOut}
use Rattle.af_toolkit.proofs.ToolEndLemmas.{is_whole}
use Rattle.af_toolkit.specs.Trace.{ClientState, Finish, answer_on, after_reply, done, refused}
use Rattle.af_cli.specs.Ranges.{IsPaced}
use Rattle.af_toolkit.specs.Parts.{Outcome, after_deeds, answered, end_among, followed, goes_on, outcome}
use Rattle.af_toolkit.proofs.PartLemmas.{IsAnswered, called_first, called_last, first_ok, goes_by}
use Rattle.af_relay.specs.Pass.{Both, RelayDeeds, RelayPart, pace_from, type_from, time_after, apass_trace, as_word, asks_from, asks_to, begins_both, block_count, both, deeds, doing, ends_contexts, finish_of, frames_played, from_context, gap_of, has_drifted, in_step, is_early, is_late, no_progress, after_block, passed_text, passes, passes_between, passes_block, moment_of, played_samples, relay_of, to_context}
use Rattle.af_relay.specs.Relayed.{AreTold, ApassRan, KeepStep, KeepsStep, PassedBlock, Relayed, is_moved, moves, play_requests, record_replies, record_requests}
use Rattle.af_relay.specs.Pair.{pair_of}
use Rattle.af_relay.proofs.RelayEndLemmas.{between, pair_is, pass_ran, relays_by, reports}
use Rattle.af_relay.proofs.TimeWordLemmas.{told_low}

abbrev RelayOutcome : Type 0 → Type 0
RelayOutcome X = Outcome RelayDeeds (X × Both ClientState) ConnFault

-- a part of a relay that is done, and that ends for faults alone, came to a value
part_ok : {X : Type 0} (did : RelayDeeds) (end : Result (X × Both ClientState) ConnFault) (next : X × Both ClientState → Outcome RelayDeeds (Unit {0} × Both ClientState) Finish) → finish_of (followed doing did (end_among refused end) next).end ≡ done → IsOk end
part_ok did (Ok y) next is = refl
part_ok did (Err f) next is = cc

-- a setup in a relay that is done was answered
pub setup_answered : {X : Type 0} (did : RelayDeeds) (answer : Result X ConnFault) (there : Both ClientState) (next : X → RelayPart Finish (Unit {0})) →
    (let o : Outcome RelayDeeds (Unit {0} × Both ClientState) Finish = followed doing did (end_among refused (answered answer there)) (λ y. next y.0 y.1) in finish_of o.end ≡ done → (x : X) × (answer ≡ Ok x) × (o ≡ after_deeds doing did (next x there)))
setup_answered did (Ok x) there next is = (x, refl, refl)
setup_answered did (Err f) there next is = absurd (cc)

-- a request in a part of a relay that came to a value was answered
module _ {X Y : Type 0} (asked : Asked) (value_of : Answer → Option X) (next : X → RelayPart ConnFault Y) (at : Both ClientState) where
  from_first : IsOk (goes_on doing (asks_from asked value_of) next at).end →
      IsAnswered doing (deeds (request_bytes at.from.order asked) [] []) (answer_on asked value_of at.from) (both (after_reply at.from) at.to) next (goes_on doing (asks_from asked value_of) next at)
  unfolding goes_on asks_from
  from_first ok = called_first doing _ _ _ next ok

  to_first : IsOk (goes_on doing (asks_to asked value_of) next at).end →
      IsAnswered doing (deeds [] (request_bytes at.to.order asked) []) (answer_on asked value_of at.to) (both at.from (after_reply at.to)) next (goes_on doing (asks_to asked value_of) next at)
  unfolding goes_on asks_to
  to_first ok = called_first doing _ _ _ next ok

-- a delay at the rate of a device that may be stated has few frames
few_frames : (d : DeviceInfo) (delay : ℕ) → IsDeviceInfo d → delay ≤ 3000 → frames_lasting d.rate delay < 2 ^ 31
few_frames d delay s short =
    let low : d.rate ≤ 48000 = rate_below d.rate s.rate in
    let most : d.rate * delay ≤ 48000 * 3000 = mul-le d.rate delay 48000 3000 low short in
    omega arith

-- a time in step is the delay ahead
ahead_of : (due now delay : ℕ) → now < 2 ^ 32 → delay < 2 ^ 31 → ((now + delay) % 2 ^ 32) % 2 ^ 32 ≡ due % 2 ^ 32 → (due + (2 ^ 32 - now)) % 2 ^ 32 ≡ delay
ahead_of due now delay word small same = omega arith

signed_small : (n : ℕ) → n < 2 ^ 31 → cast_signed w32 n ≡ pos n
signed_small n small =
    let back : cast_signed w32 (cast_unsigned w32 (pos n)) ≡ pos n = to_z-of_z {w = w32} {z = pos n} (record { sfits = omega arith }) in
    let bits : cast_unsigned w32 (pos n) ≡ n = omega arith in
    ap (cast_signed w32) (sym bits) ∙ back

no_distance : (n : ℕ) → unsigned_abs (pos n -ℤ pos n) ≡ 0
no_distance n = omega (arith, ints)

-- a block that was due in step has not drifted
in_step_holds : (due now : DevTime) (delay slack : ℕ) → now.0 < 2 ^ 32 → delay < 2 ^ 31 → (time_after now delay).0 % 2 ^ 32 ≡ due.0 % 2 ^ 32 → has_drifted due now delay slack ≡ false
in_step_holds due now delay slack word small same =
    let difference : word_difference due.0 now.0 ≡ pos delay = ap (cast_signed w32) (ahead_of due.0 now.0 delay word small same) ∙ signed_small delay small in
    let none : nat_lt slack 0 ≡ false = grind (arith, nat_tests) in
    ap (λ (z : ℤ). nat_lt slack (unsigned_abs (z -ℤ pos delay))) difference ∙ ap (nat_lt slack) (no_distance delay) ∙ none

eq_same : (n : ℕ) → (n == n) ≡ true
eq_same n = grind (arith, nat_tests)

eq_not : (m n : ℕ) → (m ≡ n → ⊥) → (m == n) ≡ false
eq_not m n apart = grind (arith, nat_tests, apart)

-- a place that was found again differs from the one that was due
moved_by : (b : Bool) (due now : DevTime) (last : LastFrame) (delay slack : ℕ) → has_drifted due now delay slack ≡ b → now.0 < 2 ^ 32 → delay < 2 ^ 31 →
    (let place : PlayMoment = if b then in_step now delay true else record { time = due; resynced = false; last = last } in is_moved (Some due) place.time ≡ (if place.resynced then 1 else 0))
moved_by true due now last delay slack drifted word small =
    let apart : ((time_after now delay).0 % 2 ^ 32 == due.0 % 2 ^ 32) ≡ false = eq_not ((time_after now delay).0 % 2 ^ 32) (due.0 % 2 ^ 32) (λ same. let bad : true ≡ false = sym drifted ∙ in_step_holds due now delay slack word small same in cc) in
    ap (λ (b : Bool). if b then 0 else 1) apart
moved_by false due now last delay slack drifted word small = ap (λ (b : Bool). if b then 0 else 1) (eq_same (due.0 % 2 ^ 32))

moved_so : (pace : RelayPace) (due : Option DevTime) (now : DevTime) → now.0 < 2 ^ 32 → pace.delay < 2 ^ 31 → is_moved due (moment_of pace due now).time ≡ (if (moment_of pace due now).resynced then 1 else 0)
moved_so pace None now word small = refl
moved_so pace (Some due) now word small = moved_by (has_drifted due now pace.delay pace.slack) due now _ pace.delay pace.slack refl word small

-- a block that is due late is not due early
late_not_early : (gap : ℤ) → is_late gap ≡ true → is_early gap ≡ false
late_not_early (pos n) late = refl
late_not_early (negsuc n) late = cc late

-- the last frame of a block that nothing moves is played once
once_by : (drifted : Bool) (due now : DevTime) (delay : ℕ) → (let place : PlayMoment = if drifted then in_step now delay true else record { time = due; resynced = false; last = Once } in place.last ≡ Once)
once_by true due now delay = refl
once_by false due now delay = refl

alone : (follow late : Bool) → (let last : LastFrame = if follow && false then Twice else if follow && late && false then LeftOut else Once in last ≡ Once)
alone true true = refl
alone true false = refl
alone false late = refl

placed : (drifted follow some : Bool) (due now : DevTime) (delay : ℕ) →
    (let place : PlayMoment = if drifted then in_step now delay true else record { time = due; resynced = false; last = if follow && false then Twice else if follow && false && some then LeftOut else Once } in place.last ≡ Once)
placed true follow some due now delay = refl
placed false true some due now delay = refl
placed false false some due now delay = refl

-- a block that is played at its moment
abbrev block_at : RelayPace → Option DevTime → (now : DevTime) → List ℕ → PassedBlock
block_at pace due now samples = let place = moment_of pace due now in record { told = now; time = place.time; samples = samples; last = place.last }

keeps_step : (pace : RelayPace) (due now : DevTime) (samples : List ℕ) → KeepsStep pace due (block_at pace (Some due) now samples)
keeps_step pace due now samples = record {
  afresh = λ drifted. rw drifted (refl, refl);
  touches = λ drifted. rw drifted refl;
  plain = λ follow. rw follow (once_by (has_drifted due now pace.delay pace.slack) due now pace.delay);
  twice = λ drifted follow early. rw (drifted, follow, early) refl;
  left_out = λ drifted follow late some. rw (drifted, follow, late_not_early _ late, late, some) refl;
  single = λ drifted late one. rw (drifted, late_not_early _ late, one) (alone pace.follow (is_late (gap_of due now pace.delay)));
  in_place = λ early late. rw (early, late) (placed (has_drifted due now pace.delay pace.slack) pace.follow (nat_lt 1 pace.frames) due now pace.delay);
}

keep_step : (pace : RelayPace) (due : Option DevTime) (now : DevTime) (samples : List ℕ) (blocks : List PassedBlock) →
    (let b = block_at pace due now samples in KeepStep pace (Some (time_after b.time (frames_played b.last pace.frames))) blocks) → KeepStep pace due (block_at pace due now samples ∷ blocks)
unfolding KeepStep
keep_step pace None now samples blocks more = (refl, refl, more)
keep_step pace (Some due) now samples blocks more = (keeps_step pace due now samples, more)

-- what n blocks came to
record AllPassed (n : ℕ) (job : PassJob) (pace : RelayPace) (passed : RelayProgress) (at : Both ClientState) (o : RelayOutcome RelayProgress) : Type 0 where
  passed' : RelayProgress
  at' : Both ClientState
  end : o.end ≡ Ok (passed', at')
  blocks : List PassedBlock
  order_from : at'.from.order ≡ at.from.order
  order_to : at'.to.order ≡ at.to.order
  number : length blocks ≡ n
  told : AreTold job at.to blocks
  stepped : KeepStep pace passed.due blocks
  bytes : map (λ (b : PassedBlock). b.samples) blocks ≡ record_replies n pace passed.at at.from
  sent : o.did.to ≡ play_requests at.to.order job pace.frame blocks
  recorded : o.did.from ≡ record_requests at.from.order n pace passed.at
  silent : o.did.output ≡ []
  count : passed'.resynced ≡ passed.resynced + moves pace.frames passed.due blocks

passes_made : (n : ℕ) (job : PassJob) (pace : RelayPace) (passed : RelayProgress) (at : Both ClientState) → pace.delay < 2 ^ 31 → IsOk (passes n job pace passed at).end → AllPassed n job pace passed at (passes n job pace passed at)
unfolding AreTold KeepStep record_replies record_requests moves
passes_made zero job pace passed at small ok = record {
  passed' = passed;
  at' = at;
  end = refl;
  blocks = [];
  order_from = refl;
  order_to = refl;
  number = refl;
  told = tt;
  stepped = tt;
  bytes = refl;
  sent = refl;
  recorded = refl;
  silent = refl;
  count = omega arith;
}
passes_made (suc n) job pace passed at small ok =
    let next : RelayProgress → RelayPart ConnFault RelayProgress = λ passed. passes n job pace passed in
    let a = from_first (record_run true 1 passed.at.0 pace.size) (as_recorded true pace.size) _ at (first_ok doing (passes_block job pace passed) next at ok) in
    let r : Recorded = a.value in
    let b = to_first (get_time job.to_device) as_word _ (both (after_reply at.from) at.to) a.last in
    let now : DevTime = b.value in
    let place = moment_of pace passed.due now in
    let played = played_samples place.last pace.frame r.samples in
    let c = to_first (play_run false 1 place.time.0 played) as_time _ (both (after_reply at.from) (after_reply at.to)) b.last in
    let record_one = request_bytes at.from.order (record_run true 1 passed.at.0 pace.size) in
    let get = request_bytes at.to.order (get_time job.to_device) in
    let play = request_bytes at.to.order (play_run false 1 place.time.0 played) in
    let passed1 = after_block passed place pace.frames in
    let at1 = both (after_reply at.from) (after_reply (after_reply at.to)) in
    let block : passes_block job pace passed at ≡ outcome (deeds record_one (get ++ play) []) (Ok (passed1, at1)) =
    a.is ∙ ap (λ o. after_deeds doing (deeds record_one [] []) o) (b.is ∙ ap (λ o. after_deeds doing (deeds [] get []) o) c.is)
    ∙ ap₂ (λ (s t : List ℕ). outcome (deeds s (get ++ t) []) (Ok (passed1, at1))) (append-nil record_one) (append-nil play) in
    let whole = goes_by doing (passes_block job pace passed) next block in
    let d = passes_made n job pace passed1 at1 small (subst (λ (o : RelayOutcome RelayProgress). IsOk o.end) whole ok) in
    record {
      passed' = d.passed';
      at' = d.at';
      end = ap (λ (o : RelayOutcome RelayProgress). o.end) whole ∙ d.end;
      blocks = block_at pace passed.due now r.samples ∷ d.blocks;
      order_from = d.order_from;
      order_to = d.order_to;
      number = ap suc d.number;
      told = (b.good, d.told);
      stepped = keep_step pace passed.due now r.samples d.blocks d.stepped;
      bytes = ap (λ (l : List (List ℕ)). r.samples ∷ l) d.bytes
          ∙ ap (λ (x : Result Recorded ConnFault). (let replies : List (List ℕ) = elim x [ Ok r ↦ r.samples ∷ record_replies n pace (time_after passed.at pace.frames) (after_reply at.from) | Err fault ↦ [] ] in replies)) (sym a.good);
      sent = ap (λ (o : RelayOutcome RelayProgress). o.did.to) whole ∙ ap (λ (l : List ℕ). (get ++ play) ++ l) d.sent;
      recorded = ap (λ (o : RelayOutcome RelayProgress). o.did.from) whole ∙ ap (λ (l : List ℕ). record_one ++ l) d.recorded;
      silent = ap (λ (o : RelayOutcome RelayProgress). o.did.output) whole ∙ d.silent;
      count =
          let here = moved_so pace passed.due now (told_low (get_time job.to_device) at.to now b.good) small in
          d.count ∙ ap (λ (k : ℕ). passed.resynced + k + moves pace.frames (Some (time_after place.time (frames_played place.last pace.frames))) d.blocks) (sym here) ∙ omega arith;
    }

-- the beginning of a relay, and its end
begins_made : (job : PassJob) (ty : SampleType) (n m : ℕ) (at : Both ClientState) → IsOk (begins_both job ty n m at).end → (now : DevTime) × (answer_on (get_time job.from_device) as_time (after_reply at.from) ≡ Ok now)
    × (begins_both job ty n m at ≡ outcome (deeds (request_bytes at.from.order (from_context job ty n) ++ request_bytes at.from.order (get_time job.from_device)) (request_bytes at.to.order (to_context job ty m) ++ []) [])
    (Ok (now, both (after_reply (after_reply at.from)) (after_reply at.to))))
unfolding asks_from
begins_made job ty n m at ok =
    let a = from_first (from_context job ty n) as_done _ at ok in
    let b = to_first (to_context job ty m) as_done _ (both (after_reply at.from) at.to) a.last in
    let c = called_last _ (answer_on (get_time job.from_device) as_time (after_reply at.from)) _ b.last in
    (c.0, c.1, a.is ∙ ap (λ o. after_deeds doing (deeds (request_bytes at.from.order (from_context job ty n)) [] []) o) (b.is ∙ ap (λ o. after_deeds doing (deeds [] (request_bytes at.to.order (to_context job ty m)) []) o) c.2))

ends_made : (at : Both ClientState) → IsOk (ends_contexts at).end →
    (x : Unit {0}) × (ends_contexts at ≡ outcome (deeds (request_bytes at.from.order (free_ac 1) ++ []) (request_bytes at.to.order (free_ac 1)) []) (Ok (x, both (after_reply at.from) (after_reply at.to))))
unfolding asks_to
ends_made at ok =
    let a = from_first (free_ac 1) as_done _ at ok in
    let b = called_last _ (answer_on (free_ac 1) as_done at.to) _ a.last in
    (b.0, a.is ∙ ap (λ o. after_deeds doing (deeds (request_bytes at.from.order (free_ac 1)) [] []) o) b.2)

-- bytes that are sent one after another, some of which are none
from_in_turn : (a b c d : List ℕ) → ((a ++ b) ++ (c ++ ((d ++ []) ++ []))) ++ [] ≡ a ++ b ++ c ++ d
from_in_turn a b c d = simp (append_assoc, append-nil)

to_in_turn : (a c d : List ℕ) → ((a ++ []) ++ (c ++ (d ++ []))) ++ [] ≡ a ++ c ++ d
to_in_turn a c d = simp (append_assoc, append-nil)

-- the whole of a relay between two devices
between_made : (job : PassJob) (device : DeviceInfo) (v w : ClientState) → frames_lasting device.rate job.delay < 2 ^ 31 → IsOk (passes_between job device (both v w)).end →
    Relayed job device v w (between job device (both v w)).did
unfolding goes_on
between_made job device v w small ok =
    let ty = type_from job device in
    let pace = pace_from job device in
    let channels = device.channels in
    let a = begins_made job ty channels channels (both v w) (first_ok doing (begins_both job ty channels channels) _ (both v w) ok) in
    let passing = passes (block_count job.blocks) job pace (no_progress a.0) in
    let at = both (after_reply (after_reply v)) (after_reply w) in
    let first = goes_by doing (begins_both job ty channels channels) _ a.2 in
    let ok_then = subst (λ (o : RelayOutcome ℕ). IsOk o.end) first ok in
    let d = passes_made (block_count job.blocks) job pace (no_progress a.0) at small (first_ok doing passing _ at ok_then) in
    let did = (passing at).did in
    let second = goes_by doing passing _ (ap (λ r. outcome did r) d.end) in
    let ok_last = subst (λ (o : RelayOutcome ℕ). IsOk o.end) second ok_then in
    let e = ends_made d.at' (first_ok doing ends_contexts _ d.at' ok_last) in
    let make_from = request_bytes v.order (from_context job ty channels) in
    let make_to = request_bytes w.order (to_context job ty channels) in
    let time = request_bytes v.order (get_time job.from_device) in
    let whole = ap (λ (o : RelayOutcome ℕ). (followed doing o.did (end_among refused o.end) (λ y. reports job y.0 y.1)).did)
    (first ∙ ap (λ o. after_deeds doing (deeds (make_from ++ time) (make_to ++ []) []) o) (second ∙ ap (λ o. after_deeds doing did o) (goes_by doing ends_contexts _ e.1))) in
    record {
      start = a.0;
      started = a.1;
      blocks = d.blocks;
      number = d.number;
      told = d.told;
      stepped = d.stepped;
      bytes = d.bytes;
      recorded = ap (λ (x : RelayDeeds). x.from) whole ∙ from_in_turn make_from time did.from (request_bytes d.at'.from.order (free_ac 1))
          ∙ ap₂ (λ (l : List ℕ) (o : Order). make_from ++ time ++ l ++ request_bytes o (free_ac 1)) d.recorded d.order_from;
      played = ap (λ (x : RelayDeeds). x.to) whole ∙ to_in_turn make_to did.to (request_bytes d.at'.to.order (free_ac 1))
          ∙ ap₂ (λ (l : List ℕ) (o : Order). make_to ++ l ++ request_bytes o (free_ac 1)) d.sent d.order_to;
      resynced = d.passed'.resynced;
      wrote = ap (λ (x : RelayDeeds). x.output) whole ∙ ap (λ (l : List ℕ). (l ++ []) ++ passed_text (block_count job.blocks) d.passed'.resynced) d.silent;
      moved = d.count ∙ omega arith;
    }

-- a relay that is done has its devices, and has passed all blocks
pub trace_relayed : (job : PassJob) (from to : List DeviceInfo) (v w : ClientState) → ((d : DeviceInfo) → slice_get from job.from_device ≡ Some d → IsDeviceInfo d) → IsPaced job → (apass_trace job from to v w).finish ≡ done →
    (device : DeviceInfo) × (slice_get from job.from_device ≡ Some device) × Relayed job device v w (apass_trace job from to v w).did
unfolding goes_on
trace_relayed job from to v w stated paced is = by (pair_of from job.from_device to job.to_device) refl where
  by : (r : Result DeviceInfo Finish) → pair_of from job.from_device to job.to_device ≡ r → (device : DeviceInfo) × (slice_get from job.from_device ≡ Some device) × Relayed job device v w (apass_trace job from to v w).did
  by (Ok device) pair =
      let whole = relays_by job from to (Ok device) pair in
      let first = (pair_is job from to (Ok device) pair).1 in
      let ok = part_ok _ (passes_between job device (both v w)).end _ (ap (λ (p : RelayPart Finish (Unit {0})). (relay_of (p (both v w))).finish) (sym whole) ∙ is) in
      (device, first, rw whole (between_made job device v w (few_frames device job.delay (stated device first) paced.2) ok))
  by (Err finish) pair = absurd (pair_is job from to (Err finish) pair (ap (λ (p : RelayPart Finish (Unit {0})). (relay_of (p (both v w))).finish) (sym (relays_by job from to (Err finish) pair)) ∙ is))

-- what a relay has done between its devices that followed its trace
pub between_ran : (job : PassJob) (from to : List DeviceInfo) (v w : ClientState) (device : DeviceInfo) {how : ToolEnd} {sent sent' : Both (Option (List ℕ))} {h h' : Option (List ℕ)} → RelayDid (relay_of (between job device (both v w))) how h h' (λ did. SendsBoth did sent sent') →
    pair_of from job.from_device to job.to_device ≡ Ok device → IsDeviceInfo device → IsPaced job → ApassRan job from to v w how sent sent' h h'
between_ran job from to v w device {how} {sent} {sent'} {h} {h'} followed pair stated paced =
    let f = subst (λ (p : RelayPart Finish (Unit {0})). RelayDid (relay_of (p (both v w))) how h h' (λ did. SendsBoth did sent sent')) (sym (relays_by job from to (Ok device) pair)) followed in
    pass_ran job from to v w f (λ way.
    let r = is_whole f.matches.recorded way in
    let p = is_whole f.matches.played way in
    let same : f.did ≡ (apass_trace job from to v w).did = ap₂ (λ (s t : List ℕ). deeds s t f.did.output) r.sent p.sent ∙ ap (λ (o : List ℕ). deeds (apass_trace job from to v w).did.from (apass_trace job from to v w).did.to o) r.wrote in
    let there = (pair_is job from to (Ok device) pair).1 in
    let e = trace_relayed job from to v w (λ d is. let one : d ≡ device = cc in subst IsDeviceInfo (sym one) stated) paced r.finish in
    record { device = e.0; is_there = e.1; did = f.did; relayed = subst (λ (d : RelayDeeds). Relayed job e.0 v w d) (sym same) e.2; sent = f.sent; sink = f.sink })
