-- Events are told for a time: the steps of the code.
use Rattle.std.proofs.Common.{◌≡◌, ◌<◌, ◌+◌, ◌-◌, ◌==◌, ℕ, zero, suc, true, false, List, [], ◌∷◌, drop, length, slice_get, ap, ◌∙◌, refl, arith, Result, Ok, Option, None, Some, if◌then◌else◌}
use Rattle.std.specs.Prelude.{option_map, unwrap_or}
use Rattle.std.proofs.lemmas.Bool.{ne_eqb}
use Rattle.std.proofs.lemmas.List.{length-drop}
use Rattle.af_wire.specs.declared.event.Event.{Event}
use Rattle.af_io.proofs.AppendedLemmas.{appended_none}
use Rattle.af_lib.specs.declared.fault.ConnFault.{ConnFault}
use Rattle.af_lib.specs.Calls.{ConnState, device_channels, event_of}
use Rattle.af_lib.specs.Ring.{RingState}
use Rattle.af_request.specs.declared.reply.DeviceInfo.{DeviceInfo}
use Rattle.af_toolkit.specs.declared.talk.ToolContext.{ToolContext}
use Rattle.af_toolkit.specs.Talk.{creates}
use Rattle.af_toolkit.proofs.PartLemmas.{Reached, reached_here}
use Rattle.af_toolkit.proofs.ToolPartLemmas.{is_tool}
use Rattle.af_lib.proofs.EventRingLemmas.{none_taken}
use Rattle.af_toolkit.specs.declared.end.ToolEnd.{ToolEnd}
use Rattle.af_toolkit.specs.Parts.{Goes, called, goes_on, has_value}
use Rattle.af_toolkit.specs.Trace.{ClientState, refused}
use Rattle.af_toolkit.specs.Ends.{KeepsConnection, client_of}
use Rattle.af_toolkit.specs.ToolParts.{ToolPart, ToolSight, deeds, doing, tool_sight, tooling}
use Rattle.af_events.specs.declared.job.EventsJob.{EventsJob}
use Rattle.af_events.specs.declared.span.Span.{Span}
use Rattle.af_events.specs.Spans.{frame_time, frames_of, is_at_end}
use Rattle.af_events.specs.Trace.{after_event, awaits_event, clock_context, count_of, hears_frame, next_event, tells_by, tells_during, tells_kept, tells_oldest, tells_one, tells_ring, tells_until}

-- what follows an event that was kept, and its line
abbrev pub kept_line : (n : ℕ) → EventsJob → (more : ℕ) → ToolPart ℕ
kept_line n job more = if more == 0 then has_value doing 0 else tells_oldest n job more

abbrev pub after_kept : (n : ℕ) → EventsJob → (left : ℕ) → Event → ToolPart ℕ
after_kept n job left e = goes_on doing (tells_one job left e) (kept_line n job)

pub oldest_next : (n : ℕ) (job : EventsJob) (left : ℕ) → 0 < n → tells_oldest n job left ≡ goes_on doing awaits_event (after_kept (n - 1) job left)
unfolding tells_oldest
oldest_next zero job left some = absurd (omega (arith, some))
oldest_next (suc n) job left some = let less : suc n - 1 ≡ n = omega arith in rw less refl

pub oldest_none : (n : ℕ) (job : EventsJob) (left : ℕ) → n ≡ 0 → tells_oldest n job left ≡ has_value doing left
unfolding tells_oldest
oldest_none n job left none = rw none refl

pub kept_more : (n : ℕ) (job : EventsJob) (more : ℕ) → 0 < more → kept_line n job more ≡ tells_oldest n job more
kept_more n job more some = rw (ne_eqb more 0 (λ same. omega (arith, some, same))) refl

pub kept_done : (n : ℕ) (job : EventsJob) (more : ℕ) → more ≡ 0 → kept_line n job more ≡ has_value doing 0
kept_done n job more none = rw none refl

-- a ring holds an event, or none
pub ring_some : (events : List Event) {e : Event} → slice_get events 0 ≡ Some e → 0 < length events
ring_some [] is = absurd (cc)
ring_some (x ∷ events) is = omega arith

pub ring_none : (events : List Event) → slice_get events 0 ≡ None → length events ≡ 0
ring_none [] is = refl
ring_none (x ∷ events) is = absurd (cc)

-- a connection whose oldest event was taken
abbrev pub taken_from : {L : Type 0} → ConnState L → ConnState L
taken_from old = record old { ring = record old.ring { events = drop 1 old.ring.events } }

pub taken_goes : {L : Type 0} (left sent : L → Option (List ℕ)) (old : ConnState L) {new : ConnState L} → new ≡ taken_from old → {e : Event} {held : Option (List ℕ)} → slice_get old.ring.events 0 ≡ Some e → Goes (tooling refused) awaits_event (Ok e) (tool_sight left sent old held) (tool_sight left sent new held)
unfolding awaits_event
taken_goes left sent old taken {e} {held} first = rw taken (record {
  came = λ w stands.
      let is : next_event w ≡ Ok e = ap next_event stands.2 ∙ ap (λ (o : Option Event). unwrap_or (option_map (λ (x : Event). (let r : Result Event ConnFault = Ok x in r)) o) (event_of old.order stands.0)) first in
      let there : after_event (client_of old stands.0) ≡ client_of (taken_from old) stands.0 = rw first refl in
      (after_event w, (stands.0, stands.1, ap after_event stands.2 ∙ there), deeds [] [], ap (λ (r : Result Event ConnFault). called (deeds [] []) r (after_event w)) is, (appended_none (sent old.link), appended_none held));
})

pub taken_stays : {L : Type 0} (left : L → Option (List ℕ)) (faults : L → ℕ) (old : ConnState L) {new : ConnState L} → new ≡ taken_from old → old.cause ≡ None → KeepsConnection {X = Unit {0}} left faults old new (Ok tt)
taken_stays left faults old taken usable = rw taken (record { devices = refl; usable = λ _. usable; tells = λ told. told; count = omega arith; failed = λ e. cc e })

pub taken_length : {L : Type 0} (old : ConnState L) {new : ConnState L} → new ≡ taken_from old → length new.ring.events ≡ length old.ring.events - 1
taken_length {L} old taken = ap (λ (c : ConnState L). length c.ring.events) taken ∙ length-drop 1 old.ring.events

-- none is there
pub none_there : {L : Type 0} (old : ConnState L) {new : ConnState L} → new ≡ taken_from old → slice_get old.ring.events 0 ≡ None → new ≡ old
none_there old taken none = taken ∙ ap (λ (r : RingState). record old { ring = r }) (none_taken old.ring none)

-- what a connection keeps is what its client keeps
pub kept_goes_on : {L : Type 0} (left sent : L → Option (List ℕ)) (conn : ConnState L) (job : EventsJob) (count : ℕ) {held : Option (List ℕ)} {r : Result ℕ ToolEnd} {p : ToolSight} →
    Goes (tooling refused) (tells_oldest (length conn.ring.events) job count) r (tool_sight left sent conn held) p → Goes (tooling refused) (tells_kept job count) r (tool_sight left sent conn held) p
unfolding tells_kept
kept_goes_on left sent conn job count g = record {
  came = λ w stands. (
      let same : length w.ring.events ≡ length conn.ring.events = ap (λ (c : ClientState). length c.ring.events) stands.2 in
      rw same (g.came w stands));
}

-- the context whose device tells the time
pub clock_asked : (devices : List DeviceInfo) (context : ToolContext) (span : Span) → context.device ≡ span.device → device_channels devices span.device ≡ span.channels → creates span.channels context ≡ clock_context span →
    creates (device_channels devices context.device) context ≡ clock_context span
clock_asked devices context span same channels asked = ap (λ (n : ℕ). creates n context) (ap (device_channels devices) same ∙ channels) ∙ asked

-- a job for a time begins
pub during_begins : (span : Span) (start : ℕ) (job : EventsJob) {n number left : ℕ} {o : ToolSight} → n ≡ frames_of span → number ≡ 1 → left ≡ count_of job → Reached (tooling refused) (tells_during span start job) (tells_until n span start job number start left) o o
during_begins span start job all first count = rw (all, first, count) (reached_here is_tool)

-- what follows the events that came until a reply
abbrev pub after_ring : (n : ℕ) → Span → (start : ℕ) → EventsJob → (number told more : ℕ) → ToolPart (Unit {0})
after_ring n span start job number told more =
    if is_at_end span start told more then has_value doing tt
    else goes_on doing (hears_frame span.channels (frame_time span start number)) (λ now. tells_until n span start job (number + 1) now.0 more)

module _ (n : ℕ) (span : Span) (start : ℕ) (job : EventsJob) (number told : ℕ) where
  pub until_next : (left : ℕ) → 0 < n → tells_until n span start job number told left ≡ goes_on doing (tells_ring job left) (after_ring (n - 1) span start job number told)
  unfolding tells_until
  until_next left some = elim n as (λ k. 0 < k → tells_until k span start job number told left ≡ goes_on doing (tells_ring job left) (after_ring (k - 1) span start job number told)) [
    | zero ↦ λ any. absurd (omega (arith, any))
    | suc k ↦ λ any. (let less : suc k - 1 ≡ k = omega arith in rw less refl)
  ] some

  pub until_none : (left : ℕ) → n ≡ 0 → tells_until n span start job number told left ≡ goes_on doing (tells_ring job left) (λ _. has_value doing tt)
  unfolding tells_until
  until_none left none = rw none refl

  pub ring_done : (more : ℕ) → is_at_end span start told more ≡ true → after_ring n span start job number told more ≡ has_value doing tt
  ring_done more is = rw is refl

  pub ring_more : (more : ℕ) → is_at_end span start told more ≡ false → after_ring n span start job number told more ≡ goes_on doing (hears_frame span.channels (frame_time span start number)) (λ now. tells_until n span start job (number + 1) now.0 more)
  ring_more more is = rw is refl

-- how long a job lasts, by another name
pub by_lasting : {lasting given : Option ℕ} (job : EventsJob) (devices : List DeviceInfo) {r : Result (Unit {0}) ToolEnd} {o p : ToolSight} → lasting ≡ given → Goes (tooling refused) (tells_by given job devices) r o p → Goes (tooling refused) (tells_by lasting job devices) r o p
by_lasting job devices is g = rw is g
