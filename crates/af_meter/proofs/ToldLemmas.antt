-- Which intervals were told, by the trace of the tool.
use Rattle.std.proofs.Common.{◌≡◌, ◌<◌, ◌+◌, ◌-◌, ◌*◌, ◌%◌, ◌^◌, ◌==◌, ◌⊎◌, ◌↔◌, ℕ, zero, suc, Bool, true, false, List, [], ◌∷◌, ◌++◌, sym, ap, ◌∙◌, refl, arith, append-nil, Result, Ok, Err, Option, None, Some, inl, inr, if◌then◌else◌}
use Rattle.std.specs.Prelude.{IsOk, is_some, length, slice_get}
use Rattle.std.proofs.lemmas.Bool.Decides.{nat_tests}
use Rattle.af_time.specs.declared.DevTime.{DevTime}
use Rattle.af_request.specs.Asked.{free_ac, get_time, record_run}
use Rattle.af_request.specs.declared.reply.DeviceInfo.{DeviceInfo}
use Rattle.af_lib.specs.Calls.{as_done, as_recorded, as_time}
use Rattle.af_lib.specs.declared.fault.ConnFault.{ConnFault}
use Rattle.af_lib.specs.declared.fault.ConnFault.TheVariants as fault
use Rattle.af_toolkit.specs.Device.{device_or_end}
use Rattle.af_toolkit.specs.Parts.{Outcome, after_deeds, answered, followed, goes_on, outcome}
use Rattle.af_toolkit.specs.declared.end.ToolEnd.{ToolEnd}
use Rattle.af_toolkit.specs.declared.end.ToolEnd.TheVariants as tool
use Rattle.af_toolkit.specs.Trace.{ClientState, done, ends}
use Rattle.af_toolkit.specs.Ends.{ObservedTrace, is_of_link_or_sink}
use Rattle.af_toolkit.specs.ToolParts.{ToolDeeds, asks, begins, deeds, doing}
use Rattle.af_toolkit.proofs.PartLemmas.{first_ok}
use Rattle.af_toolkit.proofs.ToolEndLemmas.{is_whole, last_output, part_answered, part_finish, tool_ran}
use Rattle.af_meter.specs.declared.job.MeterJob.{MeterJob}
use Rattle.af_meter.specs.declared.level.Levels.{Levels}
use Rattle.af_meter.specs.declared.plan.Plan.{Plan}
use Rattle.af_meter.specs.declared.row.Line.{Line}
use Rattle.af_meter.specs.Levels.{frame_size, levels_of}
use Rattle.af_meter.specs.Lines.{line_of, text_of}
use Rattle.af_meter.specs.Plans.{plan_of}
use Rattle.af_meter.specs.Trace.{count_of, hears, left_after, measures, meter_context, meter_trace, meters, meters_on, most_intervals, records}
use Rattle.af_meter.specs.Told.{AreMeasured, Heard, MeterRan, RanBy, is_of_meter, lines_of, number_of_lines}
use Rattle.af_meter.proofs.TellLemmas.{after_interval, after_line}

abbrev Ended : Type 0 → Type 0
Ended X = Outcome ToolDeeds (X × ClientState) ConnFault

-- a part that writes nothing, before another
silent_then : {X Y : Type 0} (did : ToolDeeds) (end : Result (X × ClientState) ConnFault) (next : X × ClientState → Ended Y) → did.output ≡ [] → ((v : X × ClientState) → (next v).did.output ≡ []) → (followed doing did end next).did.output ≡ []
silent_then did (Ok v) next first more = ap (λ (l : List ℕ). l ++ (next v).did.output) first ∙ more v
silent_then did (Err f) next first more = first

-- recording writes nothing
records_silent : (channels at : ℕ) (before : List (List ℕ)) (lengths : List ℕ) (w : ClientState) → (records channels at before lengths w).did.output ≡ []
unfolding records goes_on asks
records_silent channels at before [] w = refl
records_silent channels at before (n ∷ more) w = silent_then (asks (record_run true 1 at (n * frame_size channels)) (as_recorded true (n * frame_size channels)) w).did (asks (record_run true 1 at (n * frame_size channels)) (as_recorded true (n * frame_size channels)) w).end (λ y. records channels ((at + n) % 2 ^ 32) (before ++ y.0.samples ∷ []) more y.1) refl (λ v. records_silent channels ((at + n) % 2 ^ 32) (before ++ v.0.samples ∷ []) more v.1)

measures_silent : (plan : Plan) (at : ℕ) (w : ClientState) → (measures plan at w).did.output ≡ []
unfolding measures goes_on
measures_silent plan at w = silent_then (hears plan at w).did (hears plan at w).end (λ y. outcome (deeds [] []) (Ok (levels_of plan.channels y.0, y.1))) (records_silent plan.channels at [] _ w) (λ v. refl)

-- the intervals from here on, of which so many lines are written if it is done
pub record Tellings (plan : Plan) (w : ClientState) (at : ℕ) (before : List Levels) (left : ℕ) (o : Ended (Unit {0})) : Type 0 where
  pub intervals : List Levels
  pub measured : AreMeasured plan w at intervals
  pub wrote : o.did.output ≡ lines_of plan at before intervals
  pub number : IsOk o.end → number_of_lines plan before intervals ≡ left

-- no interval any more
none_told : (plan : Plan) (w : ClientState) (at : ℕ) (before : List Levels) (left : ℕ) (did : ToolDeeds) (f : ConnFault) → did.output ≡ [] → Tellings plan w at before left (outcome did (Err f))
none_told plan w at before left did f silent = record { intervals = []; measured = tt; wrote = silent; number = λ ok. cc ok }

all_told : (plan : Plan) (w : ClientState) (at : ℕ) (before : List Levels) → Tellings plan w at before 0 (outcome (deeds [] []) (Ok (tt, w)))
all_told plan w at before = record { intervals = []; measured = tt; wrote = refl; number = λ ok. refl }

-- an interval, and those after it
and_more : (plan : Plan) (w v : ClientState) (at : ℕ) (before : List Levels) (levels : Levels) (more left : ℕ) (did : ToolDeeds) (o : Ended (Unit {0})) → did.output ≡ [] → (measures plan at w).end ≡ Ok (levels, v) →
    (if is_some (line_of plan levels before) then 1 else 0) + more ≡ left → Tellings plan v ((at + plan.frames) % 2 ^ 32) (levels ∷ before) more o →
    Tellings plan w at before left (after_deeds doing did (after_deeds doing (deeds [] (text_of at levels (line_of plan levels before) ++ [])) o))
and_more plan w v at before levels more left did o silent is count t =
    let text : List ℕ = text_of at levels (line_of plan levels before) in
    record {
      intervals = levels ∷ t.intervals;
      measured = (v, is, t.measured);
      wrote = ap (λ (l : List ℕ). l ++ ((text ++ []) ++ o.did.output)) silent ∙ ap (λ (l : List ℕ). l ++ o.did.output) (append-nil text) ∙ ap (λ (l : List ℕ). text ++ l) t.wrote;
      number = λ ok. ap (λ (n : ℕ). (if is_some (line_of plan levels before) then 1 else 0) + n) (t.number ok) ∙ count;
    }

-- what follows the line of an interval
by_left : (n : ℕ) (plan : Plan) (at : ℕ) (before : List Levels) (levels : Levels) (more : ℕ) (w : ClientState) (b : Bool) → (more == 0) ≡ b → (0 < more → Tellings plan w ((at + plan.frames) % 2 ^ 32) (levels ∷ before) more (meters n plan ((at + plan.frames) % 2 ^ 32) (levels ∷ before) more w)) →
    Tellings plan w ((at + plan.frames) % 2 ^ 32) (levels ∷ before) more (after_line plan at before n levels more w)
by_left n plan at before levels more w true is later =
    let none : more ≡ 0 = grind (arith, nat_tests, is) in
    rw none (all_told plan w ((at + plan.frames) % 2 ^ 32) (levels ∷ before))
by_left n plan at before levels more w false is later =
    let some : 0 < more = grind (arith, nat_tests, is) in
    rw is (later some)

counted : (left : ℕ) (line : Option Line) → 0 < left → (if is_some line then 1 else 0) + left_after left line ≡ left
counted left (Some line) some = omega (arith, some)
counted left None some = omega (arith, some)

by_next : (n : ℕ) (plan : Plan) (at : ℕ) (before : List Levels) (left : ℕ) (w : ClientState) (did : ToolDeeds) → 0 < left → did.output ≡ [] → (end : Result (Levels × ClientState) ConnFault) → (measures plan at w).end ≡ end →
    ((v : ClientState) (levels : Levels) (more : ℕ) → 0 < more → Tellings plan v ((at + plan.frames) % 2 ^ 32) (levels ∷ before) more (meters n plan ((at + plan.frames) % 2 ^ 32) (levels ∷ before) more v)) →
    Tellings plan w at before left (followed doing did end (λ y. after_interval plan at before n left y.0 y.1))
unfolding goes_on
by_next n plan at before left w did some silent (Ok y) is later =
    let levels = y.0 in
    let line = line_of plan levels before in
    let more = left_after left line in
    and_more plan w y.1 at before levels more left did (after_line plan at before n levels more y.1) silent is (counted left line some) (by_left n plan at before levels more y.1 (more == 0) refl (later y.1 levels more))
by_next n plan at before left w did some silent (Err f) is later = none_told plan w at before left did f silent

tellings : (n : ℕ) (plan : Plan) (at : ℕ) (before : List Levels) (left : ℕ) (w : ClientState) → 0 < left → Tellings plan w at before left (meters n plan at before left w)
unfolding meters goes_on
tellings zero plan at before left w some = none_told plan w at before left (deeds [] []) fault.EventFlood refl
tellings (suc n) plan at before left w some =
    by_next n plan at before left w (measures plan at w).did some (measures_silent plan at w) (measures plan at w).end refl (λ v levels more any. tellings n plan ((at + plan.frames) % 2 ^ 32) (levels ∷ before) more v any)

-- what the tool has told by its trace: nothing, and it is not done; or the intervals that it heard
pub record Told (job : MeterJob) (device : DeviceInfo) (w : ClientState) (o : Ended (Unit {0})) : Type 0 where
  pub intervals : List Levels
  pub heard : Heard job device w intervals
  pub wrote : o.did.output ≡ lines_of (plan_of job device) heard.start.0 [] intervals
  pub number : IsOk o.end → number_of_lines (plan_of job device) [] intervals ≡ count_of job

abbrev ToldOrNot : MeterJob → DeviceInfo → ClientState → Ended (Unit {0}) → Type 0
ToldOrNot job device w o = ((o.did.output ≡ []) × (IsOk o.end → ⊥)) ⊎ Told job device w o

-- the context is freed, of which nothing is written
freed_output : (did : ToolDeeds) (end : Result (Unit {0} × ClientState) ConnFault) → (followed doing did end (λ y. asks (free_ac 1) as_done y.1)).did.output ≡ did.output
unfolding asks
freed_output did (Ok y) = append-nil did.output
freed_output did (Err f) = refl

by_begun : (job : MeterJob) (device : DeviceInfo) (w : ClientState) (did : ToolDeeds) → 0 < count_of job → did.output ≡ [] → (end : Result (DevTime × ClientState) ConnFault) → (begins (meter_context job device.channels) job.device w).end ≡ end →
    ToldOrNot job device w (followed doing did end (λ y. goes_on doing (meters most_intervals (plan_of job device) y.0.0 [] (count_of job)) (λ _. asks (free_ac 1) as_done) y.1))
unfolding goes_on
by_begun job device w did some silent (Ok y) is =
    let part = meters most_intervals (plan_of job device) y.0.0 [] (count_of job) in
    let t = tellings most_intervals (plan_of job device) y.0.0 [] (count_of job) y.1 some in
    inr (record {
      intervals = t.intervals;
      heard = record { start = y.0; from = y.1; begun = is; measured = t.measured };
      wrote = ap (λ (l : List ℕ). l ++ (goes_on doing part (λ _. asks (free_ac 1) as_done) y.1).did.output) silent ∙ freed_output (part y.1).did (part y.1).end ∙ t.wrote;
      number = λ ok. t.number (first_ok doing part (λ _. asks (free_ac 1) as_done) y.1 ok);
    })
by_begun job device w did some silent (Err f) is = inl (silent, λ ok. cc ok)

begins_silent : (job : MeterJob) (device : DeviceInfo) (w : ClientState) → (begins (meter_context job device.channels) job.device w).did.output ≡ []
unfolding goes_on asks
begins_silent job device w = silent_then (asks (meter_context job device.channels) as_done w).did (asks (meter_context job device.channels) as_done w).end (λ y. asks (get_time job.device) as_time y.1) refl (λ v. refl)

told_or_not : (job : MeterJob) (device : DeviceInfo) (w : ClientState) → 0 < count_of job → ToldOrNot job device w (meters_on job device w)
unfolding meters_on goes_on
told_or_not job device w some = by_begun job device w _ some (begins_silent job device w) _ refl

front_empty : (front rest : List ℕ) → front ++ rest ≡ [] → front ≡ []
front_empty [] rest is = refl
front_empty (x ∷ front) rest is = cc

-- the tool ran, by its trace
pub meter_ran : {job : MeterJob} {device : DeviceInfo} {w : ClientState} {how : ToolEnd} {s s' h h' : Option (List ℕ)} → 0 < count_of job → ObservedTrace (meter_trace job device w) how s s' h h' → MeterRan job device w how s s' h h'
unfolding meter_trace tool_ran
meter_ran {job} {device} {w} {how} some f =
    let o = meters_on job device w in
    let all : (meter_trace job device w).output ≡ o.did.output = ap (λ (l : List ℕ). o.did.output ++ l) (last_output o.end) ∙ append-nil o.did.output in
    let ok = λ (way : how ≡ tool.Done). (let whole = is_whole f.ended way in part_answered o.end (λ _. ends done) whole.finish) in
    record {
      ran = tool_ran f (λ _. part_finish o.end (λ _. ends done) (λ _. inl refl));
      lines = elim (told_or_not job device w some) [
        | inl none ↦ inl (front_empty f.output f.ended.unwritten (sym (sym all ∙ f.ended.wrote) ∙ none.0))
        | inr t ↦ inr (t.intervals, t.heard, f.ended.unwritten, sym t.wrote ∙ sym all ∙ f.ended.wrote, λ inner. (f.ended.whole inner).2)
      ];
      told = λ way. elim (told_or_not job device w some) [
        | inl none ↦ absurd (none.1 (ok way))
        | inr t ↦ record { intervals = t.intervals; heard = t.heard; number = t.number (ok way); wrote = (is_whole f.ended way).wrote ∙ all ∙ t.wrote }
      ];
    }

-- the device is missing
pub missing_ran : {r : Result DeviceInfo ToolEnd} (job : MeterJob) (w : ClientState) {how : ToolEnd} (s h : Option (List ℕ)) → r ≡ Err how → RanBy r job w how s s h h
missing_ran job w s h is = rw is (refl, refl, refl)

-- or it is there
pub there_ran : {r : Result DeviceInfo ToolEnd} {job : MeterJob} {device : DeviceInfo} {w : ClientState} {how : ToolEnd} {s s' h h' : Option (List ℕ)} → r ≡ Ok device → MeterRan job device w how s s' h h' → RanBy r job w how s s' h h'
there_ran is ran = rw is ran

-- the end for a missing device comes exactly so
missing_at : (found : Option DeviceInfo) (count : ℕ) {how : ToolEnd} → device_or_end found count ≡ Err how → (found ≡ None) × (how ≡ tool.NoDevice count)
missing_at None count is = (refl, cc)
missing_at (Some device) count is = absurd (cc)

there_at : (found : Option DeviceInfo) (count : ℕ) {device : DeviceInfo} → device_or_end found count ≡ Ok device → found ≡ Some device
there_at None count is = absurd (cc)
there_at (Some device) count is = cc

pub missing_exactly : {found : Option DeviceInfo} {count : ℕ} {how : ToolEnd} → device_or_end found count ≡ Err how → (n : ℕ) → (how ≡ tool.NoDevice n) ↔ ((n ≡ count) × (found ≡ None))
missing_exactly {found} {count} is n =
    let way = missing_at found count is in
    (λ e. (let both : tool.NoDevice n ≡ tool.NoDevice count = sym e ∙ way.1 in (cc, way.0)), λ e. way.1 ∙ ap (λ (m : ℕ). tool.NoDevice m) (sym e.0))

pub there_exactly : {found : Option DeviceInfo} {count : ℕ} {device : DeviceInfo} {how : ToolEnd} → device_or_end found count ≡ Ok device → ((n : ℕ) → how ≡ tool.NoDevice n → ⊥) → (n : ℕ) → (how ≡ tool.NoDevice n) ↔ ((n ≡ count) × (found ≡ None))
there_exactly {found} {count} is other n =
    let there = there_at found count is in
    (λ e. absurd (other n e), λ e. absurd (let bad : None ≡ Some _ = sym e.1 ∙ there in cc bad))

-- the ends of the tool
pub missing_ends : (found : Option DeviceInfo) (count : ℕ) {how : ToolEnd} → device_or_end found count ≡ Err how → is_of_meter how ≡ true
missing_ends found count is = ap is_of_meter (missing_at found count is).1

pub ran_ends : (how : ToolEnd) → is_of_link_or_sink how ≡ true → is_of_meter how ≡ true
ran_ends (tool.NoDevice devices) way = refl
ran_ends tool.Done way = refl
ran_ends how way = way

pub ran_there : (how : ToolEnd) → is_of_link_or_sink how ≡ true → (n : ℕ) → how ≡ tool.NoDevice n → ⊥
ran_there how way n is = let bad : true ≡ false = sym way ∙ ap is_of_link_or_sink is in cc bad

-- the device that was found
pub device_there : (found : Option DeviceInfo) (count : ℕ) {device : DeviceInfo} → (let r : Result DeviceInfo ToolEnd = Ok device in r ≡ device_or_end found count) → found ≡ Some device
device_there found count is = there_at found count (sym is)
