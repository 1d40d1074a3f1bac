-- The steps of a machine that hears its caller: a request, an event that is heard, a call of a command, and what is written.
use Rattle.std.proofs.Common.{◌≡◌, ℕ, List, [], ◌∷◌, ◌++◌, slice_get, drop, sym, subst, ap, ap₂, ◌∙◌, refl, append_assoc, append-nil, Bool, true, false, Result, Ok, Err, Option, None, Some, inl, inr}
use Rattle.af_wire.specs.declared.event.Event.{Event}
use Rattle.af_io.specs.Observed.{Appended}
use Rattle.af_io.specs.declared.flow.Put.{Put}
use Rattle.af_io.specs.declared.flow.Put.TheVariants as puts
use Rattle.af_io.specs.Flow.{AppendedPrefix, Written as Wrote}
use Rattle.af_io.proofs.AppendedLemmas.{appended_none}
use Rattle.af_toolkit.specs.Parts.{Came, called, end_among}
use Rattle.af_request.specs.Asked.{Asked}
use Rattle.af_request.specs.Answer.{Answer}
use Rattle.af_request.specs.Requests.{request_bytes}
use Rattle.af_lib.specs.declared.fault.ConnFault.{ConnFault}
use Rattle.af_lib.specs.declared.fault.ConnFault.TheVariants as fault
use Rattle.af_lib.specs.Calls.{Called, ConnState, EventAwaited, IsFresh, IsOfMessage, Sends}
use Rattle.af_lib.specs.Ring.{RingState}
use Rattle.af_lib.proofs.EventRingLemmas.{none_taken}
use Rattle.af_lib.proofs.LinkByteLemmas.{told_both}
use Rattle.af_toolkit.specs.Trace.{ClientState, after_reply, answer_on}
use Rattle.af_toolkit.specs.Ends.{client_of}
use Rattle.af_toolkit.specs.ToolParts.{LinkSight, link_sight}
use Rattle.af_toolkit.proofs.ToolPartLemmas.{Known, asked_known}
use Rattle.af_command.specs.Acts.{Told, begun, ended, looked}
use Rattle.af_process.specs.declared.act.BeganGot.{BeganGot}
use Rattle.af_answer.specs.declared.end.AnswerEnd.{AnswerEnd}
use Rattle.af_answer.specs.declared.end.AnswerEnd.TheVariants as end
use Rattle.af_answer.specs.AnswerTrace.{after_event, connection_end, next_event}
use Rattle.af_attendant.specs.declared.job.AttendantJob.{AttendantJob}
use Rattle.af_attendant.specs.Line.{LineState, in_call, line_after, over_call}
use Rattle.af_attendant.specs.AttendantTrace.{AttendantFinish, AttendantOutcome, AttendantPart, Reply, ToCome, Work, acts_of, asks_command, awaits_event, begins, closes, does_act, ends_if, exchanges, first_reply, got_back, got_of, hears, hears_event, looks, machine_end, met_fault, moves_hook, requests, runs_of, sending, starts, still_runs, takes_oldest, writes, writing}
use Rattle.af_attendant.specs.AttendantParts.{Added, GoesBy, Seen, Sight, Went, WritesBy, attending, seen_as, shown, sight}
use Rattle.af_attendant.proofs.EffectLemmas.{IsMark, acts_marked, acts_writing, sending_on, sent_marked, sent_writing, written_marked, written_writing, writing_on}
use Rattle.af_attendant.proofs.AttendantPartLemmas.{added_none, went_stop, went_through, went_value}

-- bytes that were sent after a mark, as work
pub added_sent : {mark : Work} {sent sent' : Option (List ℕ)} {acts : Option (List Told)} {held : Option (List ℕ)} → IsMark mark → (bytes : List ℕ) → Appended sent bytes sent' → Added (seen_as sent acts held) (mark ++ sending bytes) (seen_as sent' acts held)
added_sent {acts} {held} is bytes added = record {
  link = rw (sent_marked is bytes) added;
  commands = rw (acts_marked is bytes) (appended_none acts);
  sink = rw (written_marked is bytes) (appended_none held);
}

-- a message that is sent and answered is a part of a machine
module _ {X : Type 0} (reason : ConnFault → AttendantFinish) (ends_by : (f : ConnFault) → connection_end f ≡ machine_end (reason f)) {mark : Work} (is : IsMark mark) (bytes : ClientState → List ℕ) (answer : ClientState → Result X ConnFault) (after : ClientState → ClientState) where
  abbrev answered_by : List Reply → LineState → ClientState → Result X ConnFault → AttendantOutcome X
  answered_by later line w r = called (mark ++ sending (bytes w)) (end_among reason r) (record { wire = after w; replies = later; line = line })

  abbrev at : LinkSight → Option (List Told) → Option (List ℕ) → LineState → Sight
  at link acts held line = record { link = link; acts = acts; held = held; line = line }

  module _ (link link' : LinkSight) (acts : Option (List Told)) (held : Option (List ℕ)) (line : LineState) where
    exchange_came : (later : List Reply) (w : ClientState) (result : Result X ConnFault) → IsFresh result → Sends result link.sent (bytes w) link'.sent → Known (answer w) (after w) link'.left link'.client result →
        Came attending (exchanges reason mark bytes answer after (record { wire = w; replies = later; line = line })) (end_among connection_end result) (at link acts held line, later) (at link' acts held line, later)
    exchange_came later w (Ok x) fresh sends known =
        let k = known (λ e. cc e) in
        let here = λ (v : ClientState). (let a : ToCome = record { wire = v; replies = later; line = line } in a) in
        (here (after w), (k.0, k.1, ap here (sym k.3)), _, ap (answered_by later line w) (sym k.2), added_sent is (bytes w) (sends.whole (λ e. cc e)))
    exchange_came later w (Err fault.LinkFault) fresh sends known =
        (mark ++ sending sends.part.front, inl (refl, (sending sends.part.rest, ap (λ (l : List ℕ). mark ++ sending l) sends.part.whole ∙ ap (λ (v : Work). mark ++ v) (sending_on sends.part.front sends.part.rest) ∙ sym (append_assoc mark (sending sends.part.front) (sending sends.part.rest)))), added_sent is sends.part.front sends.part.appended)
    exchange_came later w (Err fault.OutOfMemory) fresh sends known = absurd fresh
    exchange_came later w (Err (fault.Spent first)) fresh sends known = absurd fresh
    exchange_came later w (Err f) fresh sends known =
        (_, inr (reason f, ends_by f, ap (answered_by later line w) (sym (known (λ e. cc e)).2)), added_sent is (bytes w) (sends.whole (λ e. cc e)))

    pub exchange_went : (result : Result X ConnFault) → IsFresh result → ((input : List ℕ) → link.left ≡ Some input → Sends result link.sent (bytes (link.client input)) link'.sent × Known (answer (link.client input)) (after (link.client input)) link'.left link'.client result) →
        Went (exchanges reason mark bytes answer after) (end_among connection_end result) (at link acts held line) (at link' acts held line)
    exchange_went result fresh known = record {
      replies = λ later. later;
      goes = λ later. record { came = λ a stands. (let k = known stands.0 stands.1 in rw stands.2 (exchange_came later (link.client stands.0) result fresh k.0 k.1)) };
    }

-- a request and its answer are one, also where the answer was looked at later
pub answered_went : {L X : Type 0} {left sent : L → Option (List ℕ)} {faults : L → ℕ} {old new : ConnState L} {acts : Option (List Told)} {line : LineState} (reason : ConnFault → AttendantFinish) → ((f : ConnFault) → connection_end f ≡ machine_end (reason f)) → {mark : Work} → IsMark mark → {asked : Asked} {value_of : Answer → Option X} {result : Result X ConnFault} (answer : Result X ConnFault) →
    result ≡ answer → Called left sent faults asked value_of old new result → old.cause ≡ None → GoesBy left sent old new acts acts line line (requests reason mark asked value_of) (end_among connection_end answer)
unfolding requests
answered_went {left} {sent} {faults} {old} {new} {acts} {line} reason ends_by {mark} is {asked} {value_of} {result} answer same called usable held =
    subst (λ (r : Result _ ConnFault). Went (requests reason mark asked value_of) (end_among connection_end r) (sight left sent old acts held line) (sight left sent new acts held line)) same
    (exchange_went reason ends_by is (λ w. request_bytes w.order asked) (answer_on asked value_of) after_reply _ _ acts held line result (called.exchanged usable).fresh
    (λ input told. ((called.exchanged usable).sends, asked_known left sent faults asked value_of old new input result called usable told)))

-- what is known of an event that was waited for
event_known : {L : Type 0} (left sent : L → Option (List ℕ)) (faults : L → ℕ) (old new : ConnState L) (input : List ℕ) (result : Result Event ConnFault) (first : Option Event) → slice_get old.ring.events 0 ≡ first →
    EventAwaited left sent faults old new result → old.cause ≡ None → left old.link ≡ Some input → Known (next_event (client_of old input)) (after_event (client_of old input)) (left new.link) (client_of new) result
event_known left sent faults old new input result (Some e) is awaited usable told = λ sound.
    let o = awaited.oldest usable e is in
    (input, ap (λ (c : ConnState _). left c.link) o.1 ∙ told, rw is o.0, rw is (ap (λ (c : ConnState _). client_of c input) o.1))
event_known left sent faults old new input result None is awaited usable told = λ sound.
    let both = told_both (left old.link) (left new.link) input _ told awaited.read.tells (awaited.next usable is sound) in
    let at = λ (ring : RingState) (rest : List ℕ). (let w : ClientState = record { order = old.order; sequence = old.sequence; ring = ring; input = rest } in w) in
    (both.0, both.1, rw is both.2.0, rw is (ap (λ (c : ConnState _). client_of c both.0) (awaited.keeps usable is) ∙ ap₂ at (sym (none_taken old.ring is)) both.2.1))

is_fresh : (result : Result Event ConnFault) → IsOfMessage result → IsFresh result
is_fresh (Err fault.OutOfMemory) is = absurd is
is_fresh (Err (fault.Spent first)) is = absurd is
is_fresh _ is = tt

-- an event is heard
pub no_mark : IsMark []
no_mark = record { sent = refl; acts = refl; written = refl }

pub heard_went : (job : AttendantJob) (e : Event) {link : LinkSight} {acts : Option (List Told)} {held : Option (List ℕ)} {line line' : LineState} → line' ≡ line_after job e line →
    Went (hears_event job e) (Ok e) (record { link = link; acts = acts; held = held; line = line }) (record { link = link; acts = acts; held = held; line = line' })
heard_went job e {link} {acts} {held} {line} {line'} is = rw is (record {
  replies = λ later. later;
  goes = λ later. record {
    came = λ a stands. rw stands.2 (
        let there : ToCome = record { wire = link.client stands.0; replies = later; line = line_after job e line } in
        (there, (stands.0, stands.1, refl), hears e ∷ [], refl, record { link = appended_none link.sent; commands = appended_none acts; sink = appended_none held }));
  };
})

module _ {L : Type 0} {left sent : L → Option (List ℕ)} {faults : L → ℕ} {old new : ConnState L} {acts : Option (List Told)} {held : Option (List ℕ)} (job : AttendantJob) {line : LineState} where
  handed : (result : Result Event ConnFault) → EventAwaited left sent faults old new result → old.cause ≡ None →
      Went (exchanges met_fault [] (λ w. []) next_event after_event) (end_among connection_end result) (sight left sent old acts held line) (sight left sent new acts held line)
  handed result awaited usable =
      let none : Appended (sent old.link) [] (sent new.link) = rw awaited.read.sends (appended_none (sent old.link)) in
      exchange_went met_fault (λ f. refl) no_mark (λ w. []) next_event after_event _ _ acts held line result (is_fresh result (awaited.answer usable))
      (λ input told. (
        record { whole = λ sound. none; part = record { front = []; rest = []; whole = refl; appended = none } },
        event_known left sent faults old new input result (slice_get old.ring.events 0) refl awaited usable told,
      ))

  pub awaited_went : {line' : LineState} (e : Event) → EventAwaited left sent faults old new (Ok e) → old.cause ≡ None → line' ≡ line_after job e line → Went (awaits_event job) (Ok e) (sight left sent old acts held line) (sight left sent new acts held line')
  unfolding awaits_event
  awaited_went e awaited usable is = went_through (hears_event job) (handed (Ok e) awaited usable) (heard_went job e is)

  pub awaited_fault : (f : ConnFault) → EventAwaited left sent faults old new (Err f) → old.cause ≡ None → Went {X = Event} (awaits_event job) (Err (connection_end f)) (sight left sent old acts held line) (sight left sent new acts held line)
  unfolding awaits_event
  awaited_fault f awaited usable = went_stop (hears_event job) refl (handed (Err f) awaited usable)

-- the oldest event is taken from the ring
pub taken_went : {L : Type 0} (left sent : L → Option (List ℕ)) {old new : ConnState L} {acts : Option (List Told)} {held : Option (List ℕ)} {line : LineState} → new ≡ record old { ring = record old.ring { events = drop 1 old.ring.events } } →
    Went takes_oldest (Ok tt) (sight left sent old acts held line) (sight left sent new acts held line)
taken_went left sent {old} {new} {acts} {held} {line} is = rw is (record {
  replies = λ later. later;
  goes = λ later. record {
    came = λ a stands. rw stands.2 (
        let there : ToCome = record { wire = record (client_of old stands.0) { ring = record old.ring { events = drop 1 old.ring.events } }; replies = later; line = line } in
        (there, (stands.0, stands.1, refl), [], refl, added_none (seen_as (sent old.link) acts held)));
  };
})

-- acts that were done on commands
added_act : {sent held : Option (List ℕ)} {acts acts' : Option (List Told)} (act : Told) → Appended acts (act ∷ []) acts' → Added (seen_as sent acts held) (does_act act ∷ []) (seen_as sent acts' held)
added_act {sent} {held} act added = record { link = appended_none sent; commands = added; sink = appended_none held }

-- a command answered so
pub command_went : {X : Type 0} (value : Reply → X) (act : X → Told) (reply : Reply) {x : X} {link : LinkSight} {acts acts' : Option (List Told)} {held : Option (List ℕ)} {line : LineState} → value reply ≡ x → Appended acts (act x ∷ []) acts' →
    Went (asks_command value act) (Ok x) (record { link = link; acts = acts; held = held; line = line }) (record { link = link; acts = acts'; held = held; line = line })
command_went value act reply {x} {link} {acts} {acts'} {held} {line} is added = rw (sym is) (record {
  replies = λ later. reply ∷ later;
  goes = λ later. record {
    came = λ a stands. rw stands.2 (
        let there : ToCome = record { wire = link.client stands.0; replies = later; line = line } in
        (there, (stands.0, stands.1, refl), does_act (act (value reply)) ∷ [], refl, added_act (act (value reply)) (rw is added)));
  };
})

-- the end of a command is asked for
pub ended_went : {link : LinkSight} {acts acts' : Option (List Told)} {held : Option (List ℕ)} {line : LineState} (b : Bool) → Appended acts (ended ∷ []) acts' → b ≡ true →
    Went (ends_if b) (Ok tt) (record { link = link; acts = acts; held = held; line = line }) (record { link = link; acts = acts'; held = held; line = line })
ended_went {link} {acts} {acts'} {held} {line} b added is = rw is (record {
  replies = λ later. later;
  goes = λ later. record {
    came = λ a stands. rw stands.2 (
        let there : ToCome = record { wire = link.client stands.0; replies = later; line = line } in
        (there, (stands.0, stands.1, refl), does_act ended ∷ [], refl, added_act ended added));
  };
})

-- something was written, or a part of it
pub written_went : (text : List ℕ) (put : Put) {link : LinkSight} {acts : Option (List Told)} {held held' : Option (List ℕ)} {line : LineState} → Wrote put held text held' →
    Went (writes text) (elim put as (λ p. Result (Unit {0}) AnswerEnd) [ puts.Done ↦ Ok tt | puts.Failed ↦ Err end.SinkFault ]) (record { link = link; acts = acts; held = held; line = line }) (record { link = link; acts = acts; held = held'; line = line })
written_went text puts.Done {link} {acts} {held} {held'} {line} wrote = record {
  replies = λ later. later;
  goes = λ later. record {
    came = λ a stands. rw stands.2 (
        let there : ToCome = record { wire = link.client stands.0; replies = later; line = line } in
        (there, (stands.0, stands.1, refl), writing text, refl, record { link = rw (sent_writing text) (appended_none link.sent); commands = rw (acts_writing text) (appended_none acts); sink = rw (written_writing text) wrote }));
  };
}
written_went text puts.Failed {link} {acts} {held} {held'} {line} wrote = record {
  replies = λ later. later;
  goes = λ later. record {
    came = λ a stands. rw stands.2 (
        (writing wrote.front, inl (refl, (writing wrote.rest, ap writing wrote.whole ∙ writing_on wrote.front wrote.rest)), record { link = rw (sent_writing wrote.front) (appended_none link.sent); commands = rw (acts_writing wrote.front) (appended_none acts); sink = rw (written_writing wrote.front) wrote.appended }));
  };
}

pub requested_went : {L X : Type 0} {left sent : L → Option (List ℕ)} {faults : L → ℕ} {old new : ConnState L} {acts : Option (List Told)} {line : LineState} (reason : ConnFault → AttendantFinish) → ((f : ConnFault) → connection_end f ≡ machine_end (reason f)) → {mark : Work} → IsMark mark → {asked : Asked} {value_of : Answer → Option X} {result : Result X ConnFault} →
    Called left sent faults asked value_of old new result → old.cause ≡ None → GoesBy left sent old new acts acts line line (requests reason mark asked value_of) (end_among connection_end result)
requested_went reason ends_by is {result = result} called usable held = answered_went reason ends_by is result refl called usable held

-- the hook moves
pub hook_mark : (off : Bool) → IsMark (moves_hook off ∷ [])
hook_mark off = record { sent = refl; acts = refl; written = refl }

-- it was looked whether a command runs, and one was started
pub looked_went : (runs : Bool) {link : LinkSight} {acts acts' : Option (List Told)} {held : Option (List ℕ)} {line : LineState} → Appended acts (looked runs ∷ []) acts' →
    Went looks (Ok runs) (record { link = link; acts = acts; held = held; line = line }) (record { link = link; acts = acts'; held = held; line = line })
unfolding looks
looked_went runs added = command_went runs_of looked (still_runs runs) refl added

pub started_went : (got : BeganGot) {words' words : List (List ℕ)} {link : LinkSight} {acts acts' : Option (List Told)} {held : Option (List ℕ)} {line : LineState} → words' ≡ words → Appended acts (begun words' got ∷ []) acts' →
    Went (starts words) (Ok got) (record { link = link; acts = acts; held = held; line = line }) (record { link = link; acts = acts'; held = held; line = line })
unfolding starts
started_went got {words'} {words} {acts} {acts'} same added = command_went got_of (begun words) (got_back got) refl (subst (λ (w : List (List ℕ)). Appended acts (begun w got ∷ []) acts') same added)

-- an event that asks for no end
pub not_ended_went : (b : Bool) {p : Sight} → b ≡ false → Went (ends_if b) (Ok tt) p p
not_ended_went b is = rw is (went_value tt)

-- a call begins, and is over, on the line
pub begun_went : {link : LinkSight} {acts : Option (List Told)} {held : Option (List ℕ)} {line line' : LineState} → line' ≡ in_call line → Went begins (Ok tt) (record { link = link; acts = acts; held = held; line = line }) (record { link = link; acts = acts; held = held; line = line' })
begun_went {link} {acts} {held} {line} is = rw is (record {
  replies = λ later. later;
  goes = λ later. record {
    came = λ a stands. rw stands.2 (
        let there : ToCome = record { wire = link.client stands.0; replies = later; line = in_call line } in
        (there, (stands.0, stands.1, refl), [], refl, added_none (seen_as link.sent acts held)));
  };
})

pub closed_went : {link : LinkSight} {acts : Option (List Told)} {held : Option (List ℕ)} {line line' : LineState} → line' ≡ over_call line → Went closes (Ok tt) (record { link = link; acts = acts; held = held; line = line }) (record { link = link; acts = acts; held = held; line = line' })
closed_went {link} {acts} {held} {line} is = rw is (record {
  replies = λ later. later;
  goes = λ later. record {
    came = λ a stands. rw stands.2 (
        let there : ToCome = record { wire = link.client stands.0; replies = later; line = over_call line } in
        (there, (stands.0, stands.1, refl), [], refl, added_none (seen_as link.sent acts held)));
  };
})
