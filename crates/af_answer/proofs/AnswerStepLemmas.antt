-- The steps of an answering machine: a request, an event that is waited for, and a child.
use Rattle.std.proofs.Common.{◌≡◌, ℕ, zero, suc, List, [], ◌∷◌, slice_get, sym, subst, ap, ap₂, ◌∙◌, refl, Result, Ok, Err, Option, None, Some, inl, inr}
use Rattle.af_wire.specs.declared.event.Event.{Event}
use Rattle.af_io.specs.Observed.{Appended}
use Rattle.af_io.proofs.AppendedLemmas.{appended_none}
use Rattle.af_toolkit.specs.Parts.{Came, called, end_among}
use Rattle.af_process.specs.Acts.{Told}
use Rattle.af_request.specs.Asked.{Asked, hook_switch}
use Rattle.af_request.specs.Requests.{request_bytes}
use Rattle.af_lib.specs.declared.fault.ConnFault.{ConnFault}
use Rattle.af_lib.specs.declared.fault.ConnFault.TheVariants as fault
use Rattle.af_lib.specs.Calls.{as_done, Called, ConnState, EventAwaited, IsFresh, IsOfMessage, Sends}
use Rattle.af_lib.specs.Ring.{RingState}
use Rattle.af_lib.proofs.EventRingLemmas.{none_taken}
use Rattle.af_lib.proofs.LinkByteLemmas.{told_both}
use Rattle.af_toolkit.specs.Trace.{ClientState, after_reply, answer_on}
use Rattle.af_toolkit.specs.Ends.{client_of}
use Rattle.af_toolkit.specs.ToolParts.{LinkSight, link_sight}
use Rattle.af_toolkit.proofs.ToolPartLemmas.{Known, asked_known}
use Rattle.af_answer.specs.declared.child.ChildEnd.{ChildEnd}
use Rattle.af_answer.specs.AnswerTrace.{AnswerFinish, MachineOutcome, ToCome, acting, after_event, awaits_event, connection_end, deeds_of_work, exchanges, hears, machine_end, met_fault, next_event, refusal, requests, runs_child, sending}
use Rattle.af_answer.specs.AnswerParts.{Added, GoesBy, RunsBy, Seen, Went, answering, seen_as}
use Rattle.af_answer.specs.OffHook.{IsOffHook}
use Rattle.af_answer.specs.Children.{ChildRun, run_end, shell_words, told_of_run}
use Rattle.af_answer.proofs.WorkLemmas.{acts_acting, acts_sending, sending_on, sent_acting, sent_sending, written_acting, written_sending}
use Rattle.af_answer.proofs.AnswerPartLemmas.{added_none, went_stop, went_through}

-- bytes that were sent, as work
pub added_sent : {sent sent' : Option (List ℕ)} {acts : Option (List Told)} {held : Option (List ℕ)} (bytes : List ℕ) → Appended sent bytes sent' → Added (seen_as sent acts held) (sending bytes) (seen_as sent' acts held)
added_sent {acts} {held} bytes added = record {
  link = rw (sent_sending bytes) added;
  children = rw (acts_sending bytes) (appended_none acts);
  sink = rw (written_sending bytes) (appended_none held);
}

-- acts that were done, as work
added_acts : {sent held : Option (List ℕ)} {acts acts' : Option (List Told)} (told : List Told) → Appended acts told acts' → Added (seen_as sent acts held) (acting told) (seen_as sent acts' held)
added_acts {sent} {held} told added = record {
  link = rw (sent_acting told) (appended_none sent);
  children = rw (acts_acting told) added;
  sink = rw (written_acting told) (appended_none held);
}

-- the machine ends as the fault of its refused request does, whichever request that was
refusal_end : (asked : Asked) (f : ConnFault) → connection_end f ≡ machine_end (refusal asked f)
refusal_end (hook_switch device zero) f = refl
refusal_end (hook_switch device (suc off)) f = refl
refusal_end asked f = refl

-- a message that is sent and answered is a part of a machine
module _ {X : Type 0} (reason : ConnFault → AnswerFinish) (ends_by : (f : ConnFault) → connection_end f ≡ machine_end (reason f)) (bytes : ClientState → List ℕ) (answer : ClientState → Result X ConnFault) (after : ClientState → ClientState) where
  abbrev answered_by : List ChildRun → ClientState → Result X ConnFault → MachineOutcome X
  answered_by later w r = called (deeds_of_work (sending (bytes w))) (end_among reason r) (record { wire = after w; runs = later })

  module _ (link link' : LinkSight) (acts : Option (List Told)) (held : Option (List ℕ)) where
    exchange_came : (later : List ChildRun) (w : ClientState) (result : Result X ConnFault) → IsFresh result → Sends result link.sent (bytes w) link'.sent → Known (answer w) (after w) link'.left link'.client result →
        Came answering (exchanges reason bytes answer after (record { wire = w; runs = later })) (end_among connection_end result) (seen_as link acts held, later) (seen_as link' acts held, later)
    exchange_came later w (Ok x) fresh sends known =
        let k = known (λ e. cc e) in
        let at = λ (v : ClientState). (let a : ToCome = record { wire = v; runs = later } in a) in
        (at (after w), (k.0, k.1, ap at (sym k.3)), _, ap (answered_by later w) (sym k.2), added_sent (bytes w) (sends.whole (λ e. cc e)))
    exchange_came later w (Err fault.LinkFault) fresh sends known =
        (deeds_of_work (sending sends.part.front), inl (refl, (deeds_of_work (sending sends.part.rest), ap deeds_of_work (ap sending sends.part.whole ∙ sending_on sends.part.front sends.part.rest))), added_sent sends.part.front sends.part.appended)
    exchange_came later w (Err fault.OutOfMemory) fresh sends known = absurd fresh
    exchange_came later w (Err (fault.Spent first)) fresh sends known = absurd fresh
    exchange_came later w (Err f) fresh sends known =
        (_, inr (reason f, (ends_by f, λ e. cc e), ap (answered_by later w) (sym (known (λ e. cc e)).2)), added_sent (bytes w) (sends.whole (λ e. cc e)))

    pub exchange_went : (result : Result X ConnFault) → IsFresh result → ((input : List ℕ) → link.left ≡ Some input → Sends result link.sent (bytes (link.client input)) link'.sent × Known (answer (link.client input)) (after (link.client input)) link'.left link'.client result) →
        Went (exchanges reason bytes answer after) (end_among connection_end result) (seen_as link acts held) (seen_as link' acts held)
    exchange_went result fresh known = record {
      runs = λ later. later;
      goes = λ later. record { came = λ a stands. (let k = known stands.0 stands.1 in rw stands.2 (exchange_came later (link.client stands.0) result fresh k.0 k.1)) };
    }

-- a request and its answer are one
pub requested_went : {L : Type 0} {left sent : L → Option (List ℕ)} {faults : L → ℕ} {old new : ConnState L} {acts : Option (List Told)} {asked : Asked} {result : Result (Unit {0}) ConnFault} →
    Called left sent faults asked as_done old new result → old.cause ≡ None → GoesBy left sent old new acts acts (requests asked) (end_among connection_end result)
unfolding requests
requested_went {left} {sent} {faults} {old} {new} {acts} {asked} {result} called usable held =
    exchange_went (refusal asked) (refusal_end asked) (λ w. request_bytes w.order asked) (answer_on asked as_done) after_reply _ _ acts held result (called.exchanged usable).fresh
    (λ input told. ((called.exchanged usable).sends, asked_known left sent faults asked as_done old new input result called usable told))

-- and so are a request and an answer that was looked at later
pub answered_went : {L : Type 0} {left sent : L → Option (List ℕ)} {faults : L → ℕ} {old new : ConnState L} {acts : Option (List Told)} {asked : Asked} {result : Result (Unit {0}) ConnFault} (answer : Result (Unit {0}) ConnFault) →
    result ≡ answer → Called left sent faults asked as_done old new result → old.cause ≡ None → GoesBy left sent old new acts acts (requests asked) (end_among connection_end answer)
answered_went {left} {sent} {old} {new} {acts} {asked} answer is called usable held =
    subst (λ r. Went (requests asked) (end_among connection_end r) (seen_as (link_sight left sent old) acts held) (seen_as (link_sight left sent new) acts held)) is (requested_went called usable held)

-- the hook was taken off, and nothing was sent since
pub took_off : {L : Type 0} {left sent : L → Option (List ℕ)} {faults : L → ℕ} {old new : ConnState L} {device : ℕ} {u : Unit {0}} →
    Called left sent faults (hook_switch device 1) as_done old new (Ok u) → old.cause ≡ None → IsOffHook sent new
took_off {sent} {old} {new} {device} called usable =
    let order = ap (λ (conn : ConnState _). conn.order) (called.keeps usable) in
    let sends = (called.exchanged usable).sends.whole (λ e. cc e) in
    record {
      device = device;
      before = sent old.link;
      last = subst (λ o. Appended (sent old.link) (request_bytes o (hook_switch device 1)) (sent new.link)) (sym order) sends;
      usable = ap (λ (conn : ConnState _). conn.cause) (called.keeps usable);
    }

-- what is known of an event that was waited for
event_known : {L : Type 0} (left sent : L → Option (List ℕ)) (faults : L → ℕ) (old new : ConnState L) (input : List ℕ) (result : Result Event ConnFault) (first : Option Event) → slice_get old.ring.events 0 ≡ first →
    EventAwaited left sent faults old new result → old.cause ≡ None → left old.link ≡ Some input → Known (next_event (client_of old input)) (after_event (client_of old input)) (left new.link) (client_of new) result
event_known left sent faults old new input result (Some e) is awaited usable told = λ sound.
    let o = awaited.oldest usable e is in
    (input, ap (λ (c : ConnState _). left c.link) o.1 ∙ told, rw is o.0, rw is (ap (λ (c : ConnState _). client_of c input) o.1))
event_known left sent faults old new input result None is awaited usable told = λ sound.
    let both = told_both (left old.link) (left new.link) input _ told awaited.read.tells (awaited.next usable is sound) in
    let at = λ (ring : RingState) (rest : List ℕ). (let w : ClientState = record { order = old.order; sequence = old.sequence; ring = ring; input = rest } in w) in
    (both.0, both.1, rw is both.2.0, rw is (ap (λ (c : ConnState _). client_of c both.0) (awaited.keeps usable is) ∙ ap₂ at (sym (none_taken old.ring is)) both.2.1))

-- an answer to one message is one of a connection that can still be used
is_fresh : (result : Result Event ConnFault) → IsOfMessage result → IsFresh result
is_fresh (Err fault.OutOfMemory) is = absurd is
is_fresh (Err (fault.Spent first)) is = absurd is
is_fresh _ is = tt

-- an event that is waited for is a part of a machine, and so is that it is heard
heard : (e : Event) {p : Seen LinkSight} → Went (hears e) (Ok e) p p
heard e {p} = record { runs = λ later. later; goes = λ later. record { came = λ a stands. (a, stands, _, refl, added_none (seen_as p.far.sent p.acts p.held)) } }

module _ {L : Type 0} {left sent : L → Option (List ℕ)} {faults : L → ℕ} {old new : ConnState L} {acts : Option (List Told)} {held : Option (List ℕ)} where
  handed : (result : Result Event ConnFault) → EventAwaited left sent faults old new result → old.cause ≡ None →
      Went (exchanges met_fault (λ w. []) next_event after_event) (end_among connection_end result) (seen_as (link_sight left sent old) acts held) (seen_as (link_sight left sent new) acts held)
  handed result awaited usable =
      let none : Appended (sent old.link) [] (sent new.link) = rw awaited.read.sends (appended_none (sent old.link)) in
      exchange_went met_fault (λ f. refl) (λ w. []) next_event after_event _ _ acts held result (is_fresh result (awaited.answer usable))
      (λ input told. (
        record { whole = λ sound. none; part = record { front = []; rest = []; whole = refl; appended = none } },
        event_known left sent faults old new input result (slice_get old.ring.events 0) refl awaited usable told,
      ))

  pub awaited_went : (result : Result Event ConnFault) → EventAwaited left sent faults old new result → old.cause ≡ None → Went awaits_event (end_among connection_end result) (seen_as (link_sight left sent old) acts held) (seen_as (link_sight left sent new) acts held)
  unfolding awaits_event
  awaited_went (Ok e) awaited usable = went_through hears (handed (Ok e) awaited usable) (heard e)
  awaited_went (Err f) awaited usable = went_stop hears refl (handed (Err f) awaited usable)

-- a child that ran so is a part of a machine
pub child_went : (text : List ℕ) (run : ChildRun) {acts acts' : Option (List Told)} {how : ChildEnd} → how ≡ run_end run → Appended acts (told_of_run (shell_words text) run) acts' → RunsBy acts acts' (runs_child text) how
unfolding runs_child
child_went text run {how} ended told link held = record {
  runs = λ later. run ∷ later;
  goes = λ later. record {
    came = λ a stands. rw stands.2 (
        let there : ToCome = record { wire = link.client stands.0; runs = later } in
        let o = λ (e : ChildEnd). (let o : MachineOutcome ChildEnd = called (deeds_of_work (acting (told_of_run (shell_words text) run))) (Ok e) there in o) in
        (there, (stands.0, stands.1, refl), deeds_of_work (acting (told_of_run (shell_words text) run)), ap o (sym ended), added_acts (told_of_run (shell_words text) run) told));
  };
}

-- a connection that handed out an event can still be used
event_stays_at : {L : Type 0} {left sent : L → Option (List ℕ)} {faults : L → ℕ} {old new : ConnState L} {e : Event} (first : Option Event) → slice_get old.ring.events 0 ≡ first →
    EventAwaited left sent faults old new (Ok e) → old.cause ≡ None → (new.cause ≡ None) × (new.devices ≡ old.devices)
event_stays_at (Some f) is awaited usable = let o = (awaited.oldest usable f is).1 in (ap (λ (c : ConnState _). c.cause) o ∙ usable, ap (λ (c : ConnState _). c.devices) o)
event_stays_at None is awaited usable = let kept = awaited.keeps usable is in (ap (λ (c : ConnState _). c.cause) kept, ap (λ (c : ConnState _). c.devices) kept)

pub event_stays : {L : Type 0} {left sent : L → Option (List ℕ)} {faults : L → ℕ} {old new : ConnState L} {e : Event} → EventAwaited left sent faults old new (Ok e) → old.cause ≡ None → (new.cause ≡ None) × (new.devices ≡ old.devices)
event_stays {old} awaited usable = event_stays_at (slice_get old.ring.events 0) refl awaited usable
