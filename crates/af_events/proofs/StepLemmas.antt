-- The steps of the tool events: an event is waited for, and its line is written.
use Rattle.std.proofs.Common.{◌≡◌, ◌≤◌, ◌<◌, ◌-◌, ◌==◌, ℕ, zero, suc, Bool, true, false, List, [], slice_get, sym, subst, ap, ap₂, ◌∙◌, refl, arith, Result, Ok, Err, Option, None, Some, IsSome, inl, inr, if◌then◌else◌}
use Rattle.std.proofs.lemmas.Bool.{ne_eqb}
use Rattle.af_wire.specs.declared.event.Event.{Event}
use Rattle.af_io.specs.Observed.{Appended}
use Rattle.af_io.proofs.AppendedLemmas.{appended_none}
use Rattle.af_toolkit.specs.Parts.{Came, Goes, called, goes_on, has_value, stops}
use Rattle.af_lib.specs.declared.fault.ConnFault.{ConnFault}
use Rattle.af_lib.specs.declared.fault.ConnFault.TheVariants as fault
use Rattle.af_lib.specs.Calls.{Called, ConnState, EventAwaited, Sends, as_done}
use Rattle.af_lib.specs.Ring.{RingState}
use Rattle.af_lib.proofs.EventRingLemmas.{none_taken}
use Rattle.af_lib.proofs.LinkByteLemmas.{told_both}
use Rattle.af_toolkit.specs.declared.end.ToolEnd.{ToolEnd}
use Rattle.af_toolkit.specs.declared.end.ToolEnd.TheVariants as end
use Rattle.af_toolkit.specs.Trace.{ClientState, refused}
use Rattle.af_toolkit.specs.Ends.{KeepsConnection, Writes, client_of}
use Rattle.af_toolkit.proofs.PartLemmas.{goes_stop, goes_through, goes_value}
use Rattle.af_toolkit.specs.ToolParts.{LinkSight, ToolPart, ToolSight, asks, deeds, doing, link_sight, tool_sight, tooling, writes}
use Rattle.af_toolkit.proofs.ToolPartLemmas.{Known, OnLink, asks_go, is_tool, on_link, part_answer, writes_go}
use Rattle.af_cli.specs.declared.events.EventKinds.{EventKinds}
use Rattle.af_cli.specs.Events.{mask_of}
use Rattle.af_request.specs.Asked.{select_events}
use Rattle.af_events.specs.declared.job.EventsJob.{EventsJob}
use Rattle.af_events.specs.Lines.{event_line, is_asked, line_for}
use Rattle.af_events.specs.Trace.{GoesOnSink, after_event, awaits_event, keeps_every, next_event, selects, tells, tells_one}

-- what is known of an event that was waited for
event_known : {L : Type 0} (left sent : L → Option (List ℕ)) (faults : L → ℕ) (old new : ConnState L) (input : List ℕ) (result : Result Event ConnFault) (first : Option Event) → slice_get old.ring.events 0 ≡ first →
    EventAwaited left sent faults old new result → old.cause ≡ None → left old.link ≡ Some input → Known (next_event (client_of old input)) (after_event (client_of old input)) (left new.link) (client_of new) result
event_known left sent faults old new input result (Some e) is awaited usable told = λ sound.
    let o = awaited.oldest usable e is in
    (input, ap (λ (c : ConnState _). left c.link) o.1 ∙ told, rw is o.0, rw is (ap (λ (c : ConnState _). client_of c input) o.1))
event_known left sent faults old new input result None is awaited usable told = λ sound.
    let both = told_both (left old.link) (left new.link) input _ told awaited.read.tells (awaited.next usable is sound) in
    let at = λ (ring : RingState) (rest : List ℕ). (let w : ClientState = record { order = old.order; sequence = old.sequence; ring = ring; input = rest } in w) in
    (both.0, both.1, rw is both.2.0, rw is (ap (λ (c : ConnState _). client_of c both.0) (awaited.keeps usable is) ∙ ap₂ at (sym (none_taken old.ring is)) both.2.1))

-- an event that is waited for is a part of the tool
awaits_came : (w : ClientState) (r : Result Event ToolEnd) (link link' : LinkSight) (held : Option (List ℕ)) → OnLink r (next_event w) (after_event w) [] link link' →
    Came (tooling refused) (awaits_event w) r (record { link = link; held = held }) (record { link = link'; held = held })
unfolding awaits_event
awaits_came w (Ok x) link link' held on = (_, on.1, _, ap (λ (r : Result Event ConnFault). called (deeds [] []) r (after_event w)) on.0, (on.2, appended_none held))
awaits_came w (Err how) link link' held (inl on) = (deeds on.1.front [], inl (on.0, (deeds on.1.rest [], ap (λ l. deeds l []) on.1.whole)), (on.1.appended, appended_none held))
awaits_came w (Err how) link link' held (inr on) = (_, inr (on.0, on.1, ap (λ (r : Result Event ConnFault). called (deeds [] []) r (after_event w)) on.2), (on.3, appended_none held))

module _ {L : Type 0} {left sent : L → Option (List ℕ)} {faults : L → ℕ} {old new : ConnState L} where
  pub awaited_goes : (result : Result Event ConnFault) → EventAwaited left sent faults old new result → old.cause ≡ None → {r : Result Event ToolEnd} {held : Option (List ℕ)} → r ≡ part_answer result →
      Goes (tooling refused) awaits_event r (tool_sight left sent old held) (tool_sight left sent new held)
  awaited_goes result awaited usable {held = held} same =
      let none : Appended (sent old.link) [] (sent new.link) = rw awaited.read.sends (appended_none (sent old.link)) in
      let sends : Sends result (sent old.link) [] (sent new.link) = record { whole = λ sound. none; part = record { front = []; rest = []; whole = refl; appended = none } } in
      rw same (record {
        came = λ w stands. awaits_came w (part_answer result) _ _ held
            (subst (λ (c : ClientState). OnLink (part_answer result) (next_event c) (after_event c) [] (link_sight left sent old) (link_sight left sent new)) (sym stands.2)
            (on_link result _ _ [] (link_sight left sent old) (link_sight left sent new) sends (event_known left sent faults old new stands.0 result (slice_get old.ring.events 0) refl awaited usable stands.1)));
      })

  -- a connection that handed out an event can still be used
  event_stays_at : {e : Event} (first : Option Event) → slice_get old.ring.events 0 ≡ first → EventAwaited left sent faults old new (Ok e) → old.cause ≡ None → (new.cause ≡ None) × (new.devices ≡ old.devices)
  event_stays_at (Some f) is awaited usable = let o = (awaited.oldest usable f is).1 in (ap (λ (c : ConnState _). c.cause) o ∙ usable, ap (λ (c : ConnState _). c.devices) o)
  event_stays_at None is awaited usable = let kept = awaited.keeps usable is in (ap (λ (c : ConnState _). c.cause) kept, ap (λ (c : ConnState _). c.devices) kept)

  pub event_stays : {e : Event} → EventAwaited left sent faults old new (Ok e) → old.cause ≡ None → (new.cause ≡ None) × (new.devices ≡ old.devices)
  event_stays awaited usable = event_stays_at (slice_get old.ring.events 0) refl awaited usable

-- a connection stays usable, and this is what is kept of it
pub record StaysUsable {L : Type 0} (left : L → Option (List ℕ)) (faults : L → ℕ) (old new : ConnState L) : Type 0 where
  pub usable : new.cause ≡ None
  pub devices : new.devices ≡ old.devices
  pub tells : IsSome (left old.link) → IsSome (left new.link)
  pub count : faults old.link ≤ faults new.link

-- every event was kept, or one was lost
kept_at : (b : Bool) → (w : ClientState) → (w.ring.lost == 0) ≡ b → keeps_every w ≡ (if b then has_value doing tt w else stops doing fault.EventFlood w)
unfolding keeps_every
kept_at b w is = rw is refl

module _ {L : Type 0} (left sent : L → Option (List ℕ)) (conn : ConnState L) (held : Option (List ℕ)) where
  pub kept_goes : (conn.ring.lost == 0) ≡ true → Goes (tooling refused) keeps_every (Ok tt) (tool_sight left sent conn held) (tool_sight left sent conn held)
  kept_goes none = record {
    came = λ w stands. (w, stands, deeds [] [], kept_at true w (ap (λ (c : ClientState). c.ring.lost == 0) stands.2 ∙ none), (appended_none (sent conn.link), appended_none held));
  }

  pub lost_goes : (conn.ring.lost == 0) ≡ false → {how : ToolEnd} → how ≡ end.EventFlood → Goes {X = Unit {0}} (tooling refused) keeps_every (Err how) (tool_sight left sent conn held) (tool_sight left sent conn held)
  lost_goes some same = record {
    came = λ w stands. (deeds [] [], inr (fault.EventFlood, same, kept_at false w (ap (λ (c : ClientState). c.ring.lost == 0) stands.2 ∙ some)), (appended_none (sent conn.link), appended_none held));
  }

-- what follows an event, and its line
abbrev pub after_line : (n : ℕ) → EventsJob → (more : ℕ) → ToolPart (Unit {0})
after_line n job more = if more == 0 then has_value doing tt else tells n job more

abbrev pub after_one : (n : ℕ) → EventsJob → (left : ℕ) → Event → ToolPart (Unit {0})
after_one n job left e = goes_on doing (tells_one job left e) (after_line n job)

pub tells_next : (n : ℕ) (job : EventsJob) (left : ℕ) → 0 < n → tells n job left ≡ goes_on doing awaits_event (after_one (n - 1) job left)
unfolding tells
tells_next zero job left some = absurd (omega (arith, some))
tells_next (suc n) job left some = let less : suc n - 1 ≡ n = omega arith in rw less refl

-- a server was asked for events by a mask
pub selects_go : {L : Type 0} {left sent : L → Option (List ℕ)} {faults : L → ℕ} {old new : ConnState L} (kinds : EventKinds) {device mask : ℕ} {result : Result (Unit {0}) ConnFault} → mask ≡ mask_of kinds →
    Called left sent faults (select_events device mask) as_done old new result → old.cause ≡ None → {r : Result (Unit {0}) ToolEnd} {held : Option (List ℕ)} → r ≡ part_answer result → Goes (tooling refused) (selects kinds device) r (tool_sight left sent old held) (tool_sight left sent new held)
selects_go {left = left} {sent} {old = old} {new} kinds {device = device} same call usable {r} {held} is =
    subst (λ (m : ℕ). Goes (tooling refused) (asks (select_events device m) as_done) r (tool_sight left sent old held) (tool_sight left sent new held)) same (asks_go call usable is)

-- an event has its line if it is asked for
abbrev line_by : Bool → (left : ℕ) → Event → ToolPart ℕ
line_by b left e = goes_on doing (writes (if b then event_line e else [])) (λ _. has_value doing (if b then left - 1 else left))

nothing_goes : {o : ToolSight} → Goes (tooling refused) (writes []) (Ok tt) o o
nothing_goes {o} = record { came = λ w stands. (w, stands, deeds [] [], refl, (appended_none o.link.sent, appended_none o.held)) }

module _ {K : Type 0} (held : K → Option (List ℕ)) (job : EventsJob) (left : ℕ) (e : Event) where
  pub unasked_goes : (sink : K) → is_asked job e ≡ false → GoesOnSink held sink sink (tells_one job left e) (Ok left)
  unfolding line_for
  unasked_goes sink is link = subst (λ (b : Bool). Goes (tooling refused) (line_by b left e) (Ok left) (record { link = link; held = held sink }) (record { link = link; held = held sink })) (sym is)
      (goes_through is_tool (λ _. has_value doing left) nothing_goes (goes_value is_tool left))

  pub asked_goes : (sink sink' : K) (piece : List ℕ) (u : Unit {0}) → is_asked job e ≡ true → piece ≡ event_line e → Writes held piece (Ok u) sink sink' → GoesOnSink held sink sink' (tells_one job left e) (Ok (left - 1))
  unfolding line_for
  asked_goes sink sink' piece u is same wrote link = subst (λ (b : Bool). Goes (tooling refused) (line_by b left e) (Ok (left - 1)) (record { link = link; held = held sink }) (record { link = link; held = held sink' })) (sym is)
      (goes_through is_tool (λ _. has_value doing (left - 1)) (writes_go held (event_line e) (Ok u) sink sink' (subst (λ (l : List ℕ). Writes held l (Ok u) sink sink') same wrote)) (goes_value is_tool (left - 1)))

  pub cut_goes : (sink sink' : K) (piece : List ℕ) (how : ToolEnd) {r : Result ℕ ToolEnd} → r ≡ Err how → is_asked job e ≡ true → piece ≡ event_line e → Writes held piece (Err how) sink sink' → GoesOnSink held sink sink' (tells_one job left e) r
  unfolding line_for
  cut_goes sink sink' piece how {r} ended is same wrote link = subst (λ (b : Bool). Goes (tooling refused) (line_by b left e) r (record { link = link; held = held sink }) (record { link = link; held = held sink' })) (sym is)
      (goes_stop is_tool (λ _. has_value doing (left - 1)) ended (writes_go held (event_line e) (Err how) sink sink' (subst (λ (l : List ℕ). Writes held l (Err how) sink sink') same wrote)))

-- after the line of an event the tool is done if none is left to be told, and else it goes on
pub line_done : (n : ℕ) (job : EventsJob) (more : ℕ) → more ≡ 0 → after_line n job more ≡ has_value doing tt
line_done n job more is = rw is refl

pub line_more : (n : ℕ) (job : EventsJob) (more : ℕ) → 0 < more → after_line n job more ≡ tells n job more
line_more n job more some = rw (ne_eqb more 0 (λ same. omega (arith, some, same))) refl

-- and it ends after the most events
pub tells_spent : (job : EventsJob) (left : ℕ) (o : ToolSight) → Goes {X = Unit {0}} (tooling refused) (tells 0 job left) (Err end.EventFlood) o o
unfolding tells
tells_spent job left o = record { came = λ w stands. (deeds [] [], inr (fault.EventFlood, refl, refl), (appended_none o.link.sent, appended_none o.held)) }

-- a connection of which an event was lost stays as it is
pub flood_keeps : {L : Type 0} {left : L → Option (List ℕ)} {faults : L → ℕ} {old new : ConnState L} {how : ToolEnd} {r : Result (Unit {0}) ToolEnd} → KeepsConnection {X = Unit {0}} left faults old new (Ok tt) → how ≡ end.EventFlood → r ≡ Err how → KeepsConnection left faults old new r
flood_keeps {r = r} kept flood is = rw is (rw flood (record { devices = kept.devices; usable = λ ok. cc ok; tells = kept.tells; count = kept.count; failed = λ e. cc e }))
