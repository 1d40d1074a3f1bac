-- Which events were told, by the trace of the tool.
use Rattle.std.proofs.Common.{◌≡◌, ◌<◌, ◌+◌, ◌==◌, ◌⊎◌, ◌↔◌, ℕ, zero, suc, Bool, true, false, List, [], ◌∷◌, ◌++◌, sym, ap, ◌∙◌, refl, arith, append-nil, Result, Ok, Err, Option, None, Some, inl, inr, if◌then◌else◌}
use Rattle.std.specs.Prelude.{IsOk, length, slice_get}
use Rattle.std.proofs.lemmas.Bool.Decides.{nat_tests}
use Rattle.af_wire.specs.declared.event.Event.{Event}
use Rattle.af_request.specs.declared.reply.DeviceInfo.{DeviceInfo}
use Rattle.af_time.specs.declared.DevTime.{DevTime}
use Rattle.af_request.specs.Asked.{free_ac, get_time}
use Rattle.af_lib.specs.Calls.{as_done, as_time}
use Rattle.af_lib.specs.declared.fault.ConnFault.{ConnFault}
use Rattle.af_lib.specs.declared.fault.ConnFault.TheVariants as fault
use Rattle.af_toolkit.specs.Parts.{Outcome, after_deeds, answered, followed, goes_on, outcome}
use Rattle.af_toolkit.specs.declared.end.ToolEnd.{ToolEnd}
use Rattle.af_toolkit.specs.declared.end.ToolEnd.TheVariants as tool
use Rattle.af_toolkit.specs.Trace.{ClientState, done, ends}
use Rattle.af_toolkit.specs.Ends.{ObservedTrace, is_of_link_or_sink}
use Rattle.af_toolkit.specs.ToolParts.{ToolDeeds, asks, begins, deeds, doing}
use Rattle.af_toolkit.proofs.PartLemmas.{first_ok}
use Rattle.af_toolkit.proofs.ToolEndLemmas.{is_whole, last_output, part_answered, part_finish, tool_ran}
use Rattle.af_cli.specs.declared.events.DeviceChoice.{DeviceChoice}
use Rattle.af_cli.specs.declared.events.DeviceChoice.TheVariants as choice
use Rattle.af_cli.specs.declared.events.EventKinds.{EventKinds}
use Rattle.af_events.specs.declared.end.EventsEnd.{EventsEnd}
use Rattle.af_events.specs.declared.end.EventsEnd.TheVariants as end
use Rattle.af_events.specs.declared.job.EventsJob.{EventsJob}
use Rattle.af_events.specs.Lines.{is_asked, line_for, lines_for}
use Rattle.af_events.specs.Trace.{after_event, awaits_event, clock_context, count_of, events_trace, keeps_every, has_line, left_after, missing, missing_one, most_waits, next_event, selects_all, selects_from, selects_if, tells, tells_all, tells_by, tells_during, tells_for}
use Rattle.af_events.specs.declared.span.Span.{Span}
use Rattle.af_events.specs.Spans.{span_of}
use Rattle.af_events.specs.Timed.{HeardFor, events_among}
use Rattle.af_events.specs.Told.{AreHanded, CameBy, EventsRan, IsDoneBy, RanBy, is_of_events, number_asked}
use Rattle.af_events.proofs.StepLemmas.{after_line, after_one}
use Rattle.af_events.proofs.SteppingLemmas.{counted, output_then, stepping_from}

abbrev Ended : Type 0
Ended = Outcome ToolDeeds (Unit {0} × ClientState) ConnFault

-- the events that are handed to a client from here on, of which so many are told if it is done
pub record Tellings (job : EventsJob) (w : ClientState) (left : ℕ) (o : Ended) : Type 0 where
  pub events : List Event
  pub handed : AreHanded w events
  pub wrote : o.did.output ≡ lines_for job events
  pub number : IsOk o.end → number_asked job events ≡ left

-- no event any more
none_told : (job : EventsJob) (w : ClientState) (left : ℕ) (f : ConnFault) → Tellings job w left (outcome (deeds [] []) (Err f))
none_told job w left f = record { events = []; handed = tt; wrote = refl; number = λ ok. cc ok }

all_told : (job : EventsJob) (w : ClientState) → Tellings job w 0 (outcome (deeds [] []) (Ok (tt, w)))
all_told job w = record { events = []; handed = tt; wrote = refl; number = λ ok. refl }

-- an event, and those after it
and_more : (job : EventsJob) (w : ClientState) (e : Event) (more left : ℕ) (o : Ended) → next_event w ≡ Ok e → (if is_asked job e then 1 else 0) + more ≡ left → Tellings job (after_event w) more o →
    Tellings job w left (after_deeds doing (deeds [] []) (after_deeds doing (deeds [] (line_for job e ++ [])) o))
and_more job w e more left o is count t = record {
  events = e ∷ t.events;
  handed = (is, t.handed);
  wrote = ap (λ (l : List ℕ). l ++ o.did.output) (append-nil (line_for job e)) ∙ ap (λ (l : List ℕ). line_for job e ++ l) t.wrote;
  number = λ ok. ap (λ (n : ℕ). (if is_asked job e then 1 else 0) + n) (t.number ok) ∙ count;
}

-- what follows the line of an event
by_left : (n : ℕ) (job : EventsJob) (more : ℕ) (w : ClientState) (b : Bool) → (more == 0) ≡ b → (0 < more → Tellings job w more (tells n job more w)) → Tellings job w more (after_line n job more w)
by_left n job more w true is later =
    let none : more ≡ 0 = grind (arith, nat_tests, is) in
    rw none (all_told job w)
by_left n job more w false is later =
    let some : 0 < more = grind (arith, nat_tests, is) in
    rw is (later some)

by_next : (n : ℕ) (job : EventsJob) (left : ℕ) (w : ClientState) → 0 < left → (r : Result Event ConnFault) → next_event w ≡ r → ((more : ℕ) → 0 < more → Tellings job (after_event w) more (tells n job more (after_event w))) →
    Tellings job w left (followed doing (deeds [] []) (answered r (after_event w)) (λ y. after_one n job left y.0 y.1))
unfolding goes_on
by_next n job left w some (Ok e) is later =
    let more = left_after job left e in
    and_more job w e more left (after_line n job more (after_event w)) is (counted job left e some) (by_left n job more (after_event w) (more == 0) refl (later more))
by_next n job left w some (Err f) is later = none_told job w left f

tellings : (n : ℕ) (job : EventsJob) (left : ℕ) (w : ClientState) → 0 < left → Tellings job w left (tells n job left w)
unfolding tells goes_on awaits_event
tellings zero job left w some = none_told job w left fault.EventFlood
tellings (suc n) job left w some = by_next n job left w some (next_event w) refl (λ more any. tellings n job more (after_event w) any)

-- asking for events writes nothing
if_silent : (line : Bool) (kinds : EventKinds) (number : ℕ) (w : ClientState) → (selects_if line kinds number w).did.output ≡ []
unfolding asks
if_silent true kinds number w = refl
if_silent false kinds number w = refl

from_silent : (kinds : EventKinds) (number : ℕ) (devices : List DeviceInfo) (w : ClientState) → (selects_from kinds number devices w).did.output ≡ []
unfolding goes_on
from_silent kinds number [] w = refl
from_silent kinds number (device ∷ more) w = output_then _ _ (λ y. selects_from kinds (number + 1) more y.1) (if_silent device.line kinds number w) (λ v. from_silent kinds (number + 1) more v.1)

all_silent : (devices : DeviceChoice) (kinds : EventKinds) (all : List DeviceInfo) (w : ClientState) → (selects_all devices kinds all w).did.output ≡ []
all_silent (choice.One number) kinds all w = if_silent true kinds number w
all_silent choice.All kinds all w = from_silent kinds 0 all w

-- what the tool has told by its trace: nothing, and it is not done; or the events that it heard
pub record Told (lasting : Option ℕ) (job : EventsJob) (devices : List DeviceInfo) (w : ClientState) (o : Ended) : Type 0 where
  pub events : List Event
  pub heard : CameBy lasting job devices w events
  pub wrote : o.did.output ≡ lines_for job events
  pub number : IsOk o.end → IsDoneBy lasting job devices w events

abbrev ToldOrNot : Option ℕ → EventsJob → List DeviceInfo → ClientState → Ended → Type 0
ToldOrNot lasting job devices w o = ((o.did.output ≡ []) × (IsOk o.end → ⊥)) ⊎ Told lasting job devices w o

-- the same after deeds that wrote nothing
told_after : {lasting : Option ℕ} {job : EventsJob} {devices : List DeviceInfo} {w : ClientState} {o : Ended} (did : ToolDeeds) → did.output ≡ [] → ToldOrNot lasting job devices w o → ToldOrNot lasting job devices w (after_deeds doing did o)
told_after {o = o} did silent (inl none) = inl (ap (λ (l : List ℕ). l ++ o.did.output) silent ∙ none.0, none.1)
told_after {o = o} did silent (inr t) = inr (record { events = t.events; heard = t.heard; wrote = ap (λ (l : List ℕ). l ++ o.did.output) silent ∙ t.wrote; number = t.number })

-- the context is freed, of which nothing is written
freed_output : (did : ToolDeeds) (end : Result (Unit {0} × ClientState) ConnFault) → (followed doing did end (λ y. asks (free_ac 1) as_done y.1)).did.output ≡ did.output
unfolding asks
freed_output did (Ok y) = append-nil did.output
freed_output did (Err f) = refl

begins_silent : (span : Span) (w : ClientState) → (begins (clock_context span) span.device w).did.output ≡ []
unfolding goes_on asks
begins_silent span w = output_then (asks (clock_context span) as_done w).did (asks (clock_context span) as_done w).end (λ y. asks (get_time span.device) as_time y.1) refl (λ v. refl)

-- a job for a time, by how its context began
by_begun : (milliseconds : ℕ) (job : EventsJob) (devices : List DeviceInfo) (w v : ClientState) (did : ToolDeeds) → (let span = span_of milliseconds job.devices devices in 0 < count_of job → did.output ≡ [] →
    (selects_all job.devices job.kinds devices w).end ≡ Ok (tt, v) → v.ring.lost ≡ 0 → (end : Result (DevTime × ClientState) ConnFault) → (begins (clock_context span) span.device v).end ≡ end →
    ToldOrNot (Some milliseconds) job devices w (followed doing did end (λ y. goes_on doing (tells_during span y.0.0 job) (λ _. asks (free_ac 1) as_done) y.1)))
unfolding goes_on
by_begun milliseconds job devices w v did some silent selected kept (Ok y) is =
    let span = span_of milliseconds job.devices devices in
    let part = tells_during span y.0.0 job in
    let t = stepping_from span y.0.0 job y.1 some in
    let heard : HeardFor span job devices w t.steps = record { from = v; selected = selected; kept = kept; start = y.0; there = y.1; begun = is; last = t.last; came = t.came } in
    inr (record {
      events = events_among t.steps;
      heard = (t.steps, heard, refl);
      wrote = ap (λ (l : List ℕ). l ++ (goes_on doing part (λ _. asks (free_ac 1) as_done) y.1).did.output) silent ∙ freed_output (part y.1).did (part y.1).end ∙ t.wrote;
      number = λ ok. elim (t.done (first_ok doing part (λ _. asks (free_ac 1) as_done) y.1 ok)) [
        | inl all ↦ inl all
        | inr over ↦ inr (t.steps, heard, refl, over)
      ];
    })
by_begun milliseconds job devices w v did some silent selected kept (Err f) is = inl (silent, λ ok. cc ok)

-- once the server is asked for all that is wanted, and no event was lost
told_by : (lasting : Option ℕ) (job : EventsJob) (devices : List DeviceInfo) (w v : ClientState) → 0 < count_of job → (selects_all job.devices job.kinds devices w).end ≡ Ok (tt, v) → v.ring.lost ≡ 0 →
    ToldOrNot lasting job devices w (tells_by lasting job devices v)
unfolding tells_for goes_on
told_by None job devices w v some selected kept =
    let t = tellings most_waits job (count_of job) v some in
    inr (record { events = t.events; heard = record { from = v; selected = selected; kept = kept; handed = t.handed }; wrote = t.wrote; number = t.number })
told_by (Some milliseconds) job devices w v some selected kept = by_begun milliseconds job devices w v _ some (begins_silent (span_of milliseconds job.devices devices) v) selected kept _ refl

by_kept : (job : EventsJob) (devices : List DeviceInfo) (w v : ClientState) (did : ToolDeeds) → 0 < count_of job → did.output ≡ [] → (selects_all job.devices job.kinds devices w).end ≡ Ok (tt, v) → (b : Bool) → (v.ring.lost == 0) ≡ b →
    ToldOrNot job.lasting job devices w (after_deeds doing did (goes_on doing keeps_every (λ _. tells_by job.lasting job devices) v))
unfolding goes_on keeps_every
by_kept job devices w v did some silent selected true is =
    let none : v.ring.lost ≡ 0 = grind (arith, nat_tests, is) in
    rw is (told_after did silent (told_after (deeds [] []) refl (told_by job.lasting job devices w v some selected none)))
by_kept job devices w v did some silent selected false is = rw is (inl (ap (λ (l : List ℕ). l ++ []) silent, λ ok. cc ok))

by_selected : (job : EventsJob) (devices : List DeviceInfo) (w : ClientState) (did : ToolDeeds) → 0 < count_of job → did.output ≡ [] → (end : Result (Unit {0} × ClientState) ConnFault) → (selects_all job.devices job.kinds devices w).end ≡ end →
    ToldOrNot job.lasting job devices w (followed doing did end (λ y. goes_on doing keeps_every (λ _. tells_by job.lasting job devices) y.1))
by_selected job devices w did some silent (Ok y) is = by_kept job devices w y.1 did some silent is (y.1.ring.lost == 0) refl
by_selected job devices w did some silent (Err f) is = inl (silent, λ ok. cc ok)

pub told_or_not : (job : EventsJob) (devices : List DeviceInfo) (w : ClientState) → 0 < count_of job → ToldOrNot job.lasting job devices w (tells_all job devices w)
unfolding tells_all goes_on
told_or_not job devices w some = by_selected job devices w _ some (all_silent job.devices job.kinds devices w) _ refl

front_empty : (front rest : List ℕ) → front ++ rest ≡ [] → front ≡ []
front_empty [] rest is = refl
front_empty (x ∷ front) rest is = cc

-- the tool ran, by its trace
pub events_ran : {job : EventsJob} {devices : List DeviceInfo} {w : ClientState} {how : ToolEnd} {s s' h h' : Option (List ℕ)} → 0 < count_of job → ObservedTrace (events_trace job devices w) how s s' h h' → EventsRan job devices w how s s' h h'
unfolding events_trace tool_ran
events_ran {job} {devices} {w} {how} some f =
    let o = tells_all job devices w in
    let all : (events_trace job devices w).output ≡ o.did.output = ap (λ (l : List ℕ). o.did.output ++ l) (last_output o.end) ∙ append-nil o.did.output in
    let ok = λ (way : how ≡ tool.Done). (let whole = is_whole f.ended way in part_answered o.end (λ _. ends done) whole.finish) in
    record {
      ran = tool_ran f (λ _. part_finish o.end (λ _. ends done) (λ _. inl refl));
      lines = elim (told_or_not job devices w some) [
        | inl none ↦ inl (front_empty f.output f.ended.unwritten (sym (sym all ∙ f.ended.wrote) ∙ none.0))
        | inr t ↦ inr (t.events, t.heard, f.ended.unwritten, sym t.wrote ∙ sym all ∙ f.ended.wrote, λ inner. (f.ended.whole inner).2)
      ];
      told = λ way. elim (told_or_not job devices w some) [
        | inl none ↦ absurd (none.1 (ok way))
        | inr t ↦ record { events = t.events; heard = t.heard; number = t.number (ok way); wrote = (is_whole f.ended way).wrote ∙ all ∙ t.wrote }
      ];
    }

-- what is wanted is missing
pub missing_ran : {m : Option EventsEnd} (job : EventsJob) (devices : List DeviceInfo) (w : ClientState) {how : EventsEnd} (s h : Option (List ℕ)) → m ≡ Some how → RanBy m job devices w how s s h h
missing_ran job devices w s h is = rw is (refl, refl, refl)

pub missing_exactly : {m : Option EventsEnd} {how wanted : EventsEnd} → m ≡ Some how → (how ≡ wanted) ↔ (m ≡ Some wanted)
missing_exactly is = (λ e. is ∙ ap (λ (x : EventsEnd). Some x) e, λ e. (let both : Some _ ≡ Some _ = sym is ∙ e in cc both))

-- or it is there
pub there_ran : {m : Option EventsEnd} {job : EventsJob} {devices : List DeviceInfo} {w : ClientState} {how : ToolEnd} {s s' h h' : Option (List ℕ)} → m ≡ None → EventsRan job devices w how s s' h h' → RanBy m job devices w (end.Tool how) s s' h h'
there_ran {how = how} is ran = rw is (how, refl, ran)

pub there_exactly : {m : Option EventsEnd} {how wanted : EventsEnd} → m ≡ None → (how ≡ wanted → ⊥) → (how ≡ wanted) ↔ (m ≡ Some wanted)
there_exactly is other = (λ e. absurd (other e), λ e. (let bad : None ≡ Some _ = sym is ∙ e in cc bad))

-- the ends of the tool
line_ends : (number : ℕ) (line : Bool) {how : EventsEnd} → (if line then None else Some (end.NoLine number)) ≡ Some how → is_of_events how ≡ true
line_ends number true is = cc is
line_ends number false {how} is = let same : end.NoLine number ≡ how = cc is in sym (ap is_of_events same)

missing_one_ends : (number : ℕ) (found : Option DeviceInfo) (count : ℕ) {how : EventsEnd} → missing_one number found count ≡ Some how → is_of_events how ≡ true
missing_one_ends number None count {how} is = let same : end.Tool (tool.NoDevice count) ≡ how = cc is in sym (ap is_of_events same)
missing_one_ends number (Some device) count is = line_ends number device.line is

pub missing_ends : (devices : DeviceChoice) (all : List DeviceInfo) {how : EventsEnd} → missing devices all ≡ Some how → is_of_events how ≡ true
missing_ends (choice.One number) all is = missing_one_ends number (slice_get all number) (length all) is
missing_ends choice.All all is = line_ends 0 (has_line all) is

pub telling_ends : (how : ToolEnd) → is_of_link_or_sink how ≡ true → is_of_events (end.Tool how) ≡ true
telling_ends (tool.NoDevice devices) way = refl
telling_ends tool.Done way = refl
telling_ends how way = way

pub telling_there : (how : ToolEnd) → is_of_link_or_sink how ≡ true → (n : ℕ) → end.Tool how ≡ end.Tool (tool.NoDevice n) → ⊥
telling_there how way n is = let same : how ≡ tool.NoDevice n = cc is in (let bad : true ≡ false = sym way ∙ ap is_of_link_or_sink same in cc bad)
