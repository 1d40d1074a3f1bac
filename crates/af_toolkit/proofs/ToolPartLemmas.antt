-- Parts of a tool, one after the other, and how a tool follows its trace by them. The statements tell which parts are meant.
use Rattle.std.proofs.Common.{◌≡◌, ◌≢◌, ◌⊎◌, ℕ, true, false, List, [], ◌++◌, sym, ap, ap₂, ◌∙◌, subst, append_assoc, append-nil, refl, arith, inl, inr}
use Rattle.std.specs.Prelude.{Result, Ok, Err}
use Rattle.std.specs.declared.option.Option.{Option}
use Rattle.std.specs.declared.option.Option.TheVariants.{None, Some}
use Rattle.af_toolkit.specs.Parts.{Came, Goes, IsProgramKind, Outcome, Part, Stopped, called, end_among, outcome, part_among}
use Rattle.af_io.specs.Observed.{Appended}
use Rattle.af_io.specs.Flow.{AppendedPrefix}
use Rattle.af_wire.specs.declared.order.Order.{Order}
use Rattle.af_wire.specs.Front.{setup_bytes}
use Rattle.af_request.specs.declared.reply.DeviceInfo.{DeviceInfo}
use Rattle.af_request.specs.Asked.{Asked}
use Rattle.af_request.specs.Answer.{Answer}
use Rattle.af_request.specs.Requests.{request_bytes}
use Rattle.af_lib.specs.declared.fault.ConnFault.{ConnFault}
use Rattle.af_lib.specs.declared.fault.ConnFault.TheVariants as fault
use Rattle.af_lib.specs.Ring.{RingState}
use Rattle.af_lib.specs.Calls.{Called, ConnState, IsSetUp, Sends, next_sequence}
use Rattle.af_toolkit.specs.declared.end.ToolEnd.{ToolEnd}
use Rattle.af_toolkit.specs.Trace.{Trace, Finish, ClientState, answer_on, after_answer, after_reply, connects, new_client, tool_end, ends, fault_end, next_message, refused, sends_first, writes_first, client_after_setup, setup_answer}
use Rattle.af_toolkit.specs.Ends.{KeepsConnection, MatchesTrace, ObservedTrace, Writes, is_outer, client_of}
use Rattle.af_toolkit.specs.ToolParts.{IsClientOf, LinkSight, ToolDeeds, ToolSight, asks, deeds, link_sight, tool_sight, tooling, trace_ending, trace_of, writes}
use Rattle.af_io.proofs.AppendedLemmas.{appended_none, appended_on}
use Rattle.af_lib.proofs.LinkByteLemmas.{told_both}

-- an answer of a connection, as that of a tool's part
abbrev pub part_answer : {X : Type 0} → Result X ConnFault → Result X ToolEnd
part_answer (Ok x) = Ok x
part_answer (Err f) = Err (fault_end f)

-- what is sent and written before a trace goes on
abbrev pub does_first : List ℕ → List ℕ → Trace → Trace
does_first sends output c = record { sends = sends ++ c.sends; output = output ++ c.output; finish = c.finish }

-- the whole trace, when it ends after what was done
pub ended_then : (c d : Trace) (how : ToolEnd) (s o s' o' : List ℕ) → d ≡ does_first s o c → MatchesTrace c how s' o' → MatchesTrace d how (s ++ s') (o ++ o')
ended_then c d how s o s' o' is e = subst (λ (x : Trace). MatchesTrace x how (s ++ s') (o ++ o')) (sym is) (record {
  unsent = e.unsent;
  unwritten = e.unwritten;
  sent = ap (λ l. s ++ l) e.sent ∙ sym (append_assoc s s' e.unsent);
  wrote = ap (λ l. o ++ l) e.wrote ∙ sym (append_assoc o o' e.unwritten);
  whole = e.whole;
})

-- a trace that ends at once
pub ended_at_once : (c : Trace) (how : ToolEnd) (s o : List ℕ) → c.sends ≡ s → c.output ≡ o → how ≡ tool_end c.finish → MatchesTrace c how s o
ended_at_once c how s o sent wrote is = record {
  unsent = [];
  unwritten = [];
  sent = sent ∙ sym (append-nil s);
  wrote = wrote ∙ sym (append-nil o);
  whole = λ inner. (is, refl, refl);
}

-- a trace that something from outside ended
pub ended_early : (c : Trace) (how : ToolEnd) (s o s' o' : List ℕ) → is_outer how ≡ true → c.sends ≡ s ++ s' → c.output ≡ o ++ o' → MatchesTrace c how s o
ended_early c how s o s' o' outer sent wrote = record { unsent = s'; unwritten = o'; sent = sent; wrote = wrote; whole = λ inner. absurd (let bad : true ≡ false = sym outer ∙ inner in cc bad) }

-- a tool that something from outside ended before it did anything
pub followed_early : (trace : Trace) (how : ToolEnd) {s h : Option (List ℕ)} → is_outer how ≡ true → ObservedTrace trace how s s h h
followed_early trace how {s} {h} outer = record { sends = []; output = []; ended = ended_early trace how [] [] trace.sends trace.output outer refl refl; link = appended_none s; sink = appended_none h }

-- one whose trace ends at once
pub followed_end : (finish : Finish) {how : ToolEnd} {s h : Option (List ℕ)} → how ≡ tool_end finish → ObservedTrace (ends finish) how s s h h
followed_end finish {how} {s} {h} way = record { sends = []; output = []; ended = ended_at_once (ends finish) how [] [] refl refl way; link = appended_none s; sink = appended_none h }

-- one that writes a text at its end: all of it, or the first of it and then the sink failed
pub wrote_all : (text : List ℕ) (finish : Finish) {how : ToolEnd} {s h h' : Option (List ℕ)} → how ≡ tool_end finish → Appended h text h' → ObservedTrace (writes_first text (ends finish)) how s s h h'
wrote_all text finish {how} {s} way appended = record {
  sends = [];
  output = text;
  ended = ended_at_once (writes_first text (ends finish)) how [] text refl (append-nil text) way;
  link = appended_none s;
  sink = appended;
}

pub wrote_part : (text : List ℕ) (finish : Finish) {how : ToolEnd} {s h h' : Option (List ℕ)} → is_outer how ≡ true → AppendedPrefix h text h' → ObservedTrace (writes_first text (ends finish)) how s s h h'
wrote_part text finish {how} {s} outer part = record {
  sends = [];
  output = part.front;
  ended = ended_early (writes_first text (ends finish)) how [] part.front [] part.rest outer refl (append-nil text ∙ part.whole);
  link = appended_none s;
  sink = part.appended;
}

-- what a part does to its connection: nothing at first, and then what each step does
pub keeps_all : {L : Type 0} {left : L → Option (List ℕ)} {faults : L → ℕ} {conn : ConnState L} → conn.cause ≡ None → KeepsConnection {X = Unit {0}} left faults conn conn (Ok tt)
keeps_all usable = record { devices = refl; usable = λ _. usable; tells = λ told. told; count = omega arith; failed = λ e. cc }

pub keeps_on : {L X Y : Type 0} {left : L → Option (List ℕ)} {faults : L → ℕ} {old middle new : ConnState L} {x : X} {y : Y} →
    KeepsConnection left faults old middle (Ok x) → KeepsConnection left faults middle new (Ok y) → KeepsConnection {X = Unit {0}} left faults old new (Ok tt)
keeps_on before more =
    record { devices = more.devices ∙ before.devices; usable = λ _. more.usable refl; tells = λ told. more.tells (before.tells told); count = omega (arith, before.count, more.count); failed = λ e. cc }

-- a client after an answer
wire_after : {L : Type 0} (old new : ConnState L) (input a : List ℕ) → new.order ≡ old.order → new.sequence ≡ next_sequence old.sequence → new.ring ≡ (next_message (client_of old input)).ring → a ≡ (next_message (client_of old input)).rest →
    client_of new a ≡ after_reply (client_of old input)
wire_after old new input a order sequence ring rest =
    ap (λ (o : Order). (let w : ClientState = record { order = o; sequence = new.sequence; ring = new.ring; input = a } in w)) order
    ∙ ap₂ (λ (s : ℕ) (r : RingState). (let w : ClientState = record { order = old.order; sequence = s; ring = r; input = a } in w)) sequence ring
    ∙ ap (λ (i : List ℕ). (let w : ClientState = record { order = old.order; sequence = next_sequence old.sequence; ring = (next_message (client_of old input)).ring; input = i } in w)) rest

-- what is known of an answer, if the link did not fail
abbrev pub Known : {X : Type 0} → Result X ConnFault → ClientState → Option (List ℕ) → (List ℕ → ClientState) → Result X ConnFault → Type 0
Known answer after left wire result = result ≢ Err fault.LinkFault → (a : List ℕ) × (left ≡ Some a) × (result ≡ answer) × (wire a ≡ after)

pub asked_known : {L X : Type 0} (left sent : L → Option (List ℕ)) (faults : L → ℕ) (asked : Asked) (value_of : Answer → Option X) (old new : ConnState L) (input : List ℕ) (result : Result X ConnFault) →
    Called left sent faults asked value_of old new result → old.cause ≡ None → left old.link ≡ Some input →
    Known (answer_on asked value_of (client_of old input)) (after_reply (client_of old input)) (left new.link) (client_of new) result
asked_known left sent faults asked value_of old new input result called usable told = λ sound.
    let both = told_both (left old.link) (left new.link) input _ told (called.exchanged usable).tells ((called.exchanged usable).answers sound) in
    let facts = both.2 in
    let kept = called.keeps usable in
    (both.0, both.1, facts.0, wire_after old new input both.0 (ap (λ (c : ConnState _). c.order) kept) (ap (λ (c : ConnState _). c.sequence) kept) facts.1 facts.2)

-- a connection that has sent no request
pub client_begun : {L : Type 0} (order : Order) (conn : ConnState L) (input : List ℕ) → conn.order ≡ order → conn.sequence ≡ 0 → client_of conn input ≡ new_client order conn.ring input
client_begun order conn input same first =
    ap₂ (λ (o : Order) (n : ℕ). (let w : ClientState = record { order = o; sequence = n; ring = conn.ring; input = input } in w)) same first

-- what is known of the answer to a setup, if the link did not fail
pub setup_known : {L : Type 0} (order : Order) (left sent : L → Option (List ℕ)) (faults : L → ℕ) (old new : L) (ring : RingState) (input : List ℕ) (result : Result (List DeviceInfo) ConnFault) →
    IsSetUp order left sent faults old new ring result → left old ≡ Some input → Known (setup_answer order input) (client_after_setup order input) (left new) (new_client order ring) result
setup_known order left sent faults old new ring input result is told = λ sound.
    let both = told_both (left old) (left new) input _ told is.tells (is.answers sound) in
    let facts = both.2 in
    (both.0, both.1, facts.0, ap₂ (new_client order) facts.1 facts.2)

pub is_tooling : {F : Type 0} (finish_of : F → Finish) → IsProgramKind (tooling finish_of)
is_tooling finish_of = record {
  nothing_first = λ d. refl;
  joined_twice = λ d e f. ap₂ deeds (append_assoc d.sends e.sends f.sends) (append_assoc d.output e.output f.output);
  shows_nothing = λ o. (appended_none o.link.sent, appended_none o.held);
  shows_joined = λ o p q d e shows more. (
    appended_on o.link.sent p.link.sent q.link.sent d.sends e.sends shows.0 more.0,
    appended_on o.held p.held q.held d.output e.output shows.1 more.1,
  );
}

pub is_tool : IsProgramKind (tooling refused)
is_tool = is_tooling refused

-- what a message came to on its link
abbrev pub OnLink : {X : Type 0} → Result X ToolEnd → Result X ConnFault → ClientState → List ℕ → LinkSight → LinkSight → Type 0
OnLink (Ok x) answer after bytes link link' = (answer ≡ Ok x) × IsClientOf link' after × Appended link.sent bytes link'.sent
OnLink (Err how) answer after bytes link link' =
    ((is_outer how ≡ true) × AppendedPrefix link.sent bytes link'.sent)
    ⊎ ((f : ConnFault) × (how ≡ fault_end f) × (answer ≡ Err f) × Appended link.sent bytes link'.sent)

pub on_link : {X : Type 0} (result answer : Result X ConnFault) (after : ClientState) (bytes : List ℕ) (link link' : LinkSight) →
    Sends result link.sent bytes link'.sent → Known answer after link'.left link'.client result → OnLink (part_answer result) answer after bytes link link'
on_link (Ok x) answer after bytes link link' sends known =
    let k = known (λ e. cc e) in
    (sym k.2, (k.0, k.1, sym k.3), sends.whole (λ e. cc e))
on_link (Err fault.LinkFault) answer after bytes link link' sends known = inl (refl, sends.part)
on_link (Err f) answer after bytes link link' sends known = inr (f, refl, sym (known (λ e. cc e)).2, sends.whole (λ e. cc e))

-- a part that sends a request and takes its answer
asks_came : {X : Type 0} (asked : Asked) (value_of : Answer → Option X) (w : ClientState) (r : Result X ToolEnd) (link link' : LinkSight) (held : Option (List ℕ)) →
    OnLink r (answer_on asked value_of w) (after_reply w) (request_bytes w.order asked) link link' → Came (tooling refused) (asks asked value_of w) r (record { link = link; held = held }) (record { link = link'; held = held })
unfolding asks
asks_came {X} asked value_of w (Ok x) link link' held on =
    (_, on.1, _, ap (λ (r : Result X ConnFault). called (deeds (request_bytes w.order asked) []) r (after_reply w)) on.0, (on.2, appended_none held))
asks_came asked value_of w (Err how) link link' held (inl on) = (deeds on.1.front [], inl (on.0, (deeds on.1.rest [], ap (λ l. deeds l []) on.1.whole)), (on.1.appended, appended_none held))
asks_came {X} asked value_of w (Err how) link link' held (inr on) =
    (_, inr (on.0, on.1, ap (λ (r : Result X ConnFault). called (deeds (request_bytes w.order asked) []) r (after_reply w)) on.2), (on.3, appended_none held))

module _ {L X : Type 0} {left sent : L → Option (List ℕ)} {faults : L → ℕ} {asked : Asked} {value_of : Answer → Option X} {old new : ConnState L} {result : Result X ConnFault}
    (call : Called left sent faults asked value_of old new result) (usable : old.cause ≡ None) where
  pub call_on_link : (w : ClientState) → IsClientOf (link_sight left sent old) w → OnLink (part_answer result) (answer_on asked value_of w) (after_reply w) (request_bytes w.order asked) (link_sight left sent old) (link_sight left sent new)
  call_on_link w stands =
      subst (λ (c : ClientState). OnLink (part_answer result) (answer_on asked value_of c) (after_reply c) (request_bytes c.order asked) (link_sight left sent old) (link_sight left sent new)) (sym stands.2)
      (on_link result _ _ _ (link_sight left sent old) (link_sight left sent new) (call.exchanged usable).sends (asked_known left sent faults asked value_of old new stands.0 result call usable stands.1))

  pub asks_go : {r : Result X ToolEnd} {held : Option (List ℕ)} → r ≡ part_answer result → Goes (tooling refused) (asks asked value_of) r (tool_sight left sent old held) (tool_sight left sent new held)
  asks_go {held} same = rw same (record { came = λ w stands. asks_came asked value_of w (part_answer result) _ _ held (call_on_link w stands) })

-- the same part of a tool that may end for other causes too
abbrev among : {F G X : Type 0} → (F → G) → Outcome ToolDeeds (X × ClientState) F → Outcome ToolDeeds (X × ClientState) G
among name o = outcome o.did (end_among name o.end)

came_among : {F G X : Type 0} (name : F → G) (finish_of : G → Finish) (first : Outcome ToolDeeds (X × ClientState) F) (r : Result X ToolEnd) (o p : ToolSight) → Came (tooling (λ cause. finish_of (name cause))) first r o p → Came (tooling finish_of) (among name first) r o p
came_among name finish_of first (Ok x) o p c = (c.0, c.1, c.2, ap (among name) c.3, c.4)
came_among name finish_of first (Err how) o p c = (c.0, elim c.1 [ inl outer ↦ inl (outer.0, (outer.1.0, ap (λ (d : ToolDeeds). d) outer.1.1)) | inr e ↦ inr (name e.0, e.1, ap (among name) e.2) ], c.2)

pub goes_among : {F G X : Type 0} (name : F → G) (finish_of : G → Finish) {part : Part ClientState ToolDeeds F X} {r : Result X ToolEnd} {o p : ToolSight} → Goes (tooling (λ cause. finish_of (name cause))) part r o p → Goes (tooling finish_of) (part_among name part) r o p
goes_among name finish_of {part} {r} {o} {p} g = record { came = λ w stands. came_among name finish_of (part w) r o p (g.came w stands) }

-- something from outside ended a part before it did anything
pub cut_goes : {F X : Type 0} (finish_of : F → Finish) {part : Part ClientState ToolDeeds F X} (how : ToolEnd) {o : ToolSight} → is_outer how ≡ true → Goes {X = X} (tooling finish_of) part (Err how) o o
cut_goes finish_of {part} how {o} outer = record { came = λ w stands. (deeds [] [], inl (outer, ((part w).did, refl)), (appended_none o.link.sent, appended_none o.held)) }

-- a part that writes: all, or the first of it and then the sink failed
pub writes_go : {K : Type 0} (held : K → Option (List ℕ)) (bytes : List ℕ) (result : Result (Unit {0}) ToolEnd) (sink sink' : K) {link : LinkSight} → Writes held bytes result sink sink' →
    Goes (tooling refused) (writes bytes) result (record { link = link; held = held sink }) (record { link = link; held = held sink' })
writes_go held bytes (Ok x) sink sink' {link} appended = record { came = λ w stands. (w, stands, deeds [] bytes, refl, (appended_none link.sent, appended)) }
writes_go held bytes (Err how) sink sink' {link} failed =
    let part = failed.1 in
    record { came = λ w stands. (deeds [] part.front, inl (ap is_outer failed.0, (deeds [] part.rest, ap (λ l. deeds [] l) part.whole)), (appended_none link.sent, part.appended)) }

-- a tool that ended within its first part, whatever was to follow
module _ {X F : Type 0} (finish_of : F → Finish) (next : X → Trace) where
  stopped : (o : Outcome ToolDeeds (X × ClientState) F) (how : ToolEnd) (did : ToolDeeds) → Stopped (tooling finish_of) o how did → MatchesTrace (trace_of finish_of o next) how did.sends did.output
  stopped o how did (inl within) =
      let rest = within.1.0 in
      let last = trace_ending finish_of o.end next in
      ended_early (trace_of finish_of o next) how did.sends did.output (rest.sends ++ last.sends) (rest.output ++ last.output) within.0
      (ap (λ (d : ToolDeeds). d.sends ++ last.sends) within.1.1 ∙ append_assoc did.sends rest.sends last.sends) (ap (λ (d : ToolDeeds). d.output ++ last.output) within.1.1 ∙ append_assoc did.output rest.output last.output)
  stopped o how did (inr ended) = rw ended.2 (ended_at_once _ how did.sends did.output (append-nil did.sends) (append-nil did.output) ended.1)

  module _ {part : Part ClientState ToolDeeds F X} {before after : ToolSight} {w : ClientState} (stands : IsClientOf before.link w) where
    pub trace_stops : {how : ToolEnd} → Goes {X = X} (tooling finish_of) part (Err how) before after → ObservedTrace (trace_of finish_of (part w) next) how before.link.sent after.link.sent before.held after.held
    trace_stops {how} g =
        let c = g.came w stands in
        record { sends = c.0.sends; output = c.0.output; ended = stopped (part w) how c.0 c.1; link = c.2.0; sink = c.2.1 }

    -- or it went on
    pub trace_goes_on : {how : ToolEnd} {x : X} {s'' h'' : Option (List ℕ)} → Goes (tooling finish_of) part (Ok x) before after → ObservedTrace (next x) how after.link.sent s'' after.held h'' → ObservedTrace (trace_of finish_of (part w) next) how before.link.sent s'' before.held h''
    trace_goes_on {how} {x} {s''} {h''} g more =
        let c = g.came w stands in
        let did = c.2 in
        record {
          sends = did.sends ++ more.sends;
          output = did.output ++ more.output;
          ended = ended_then (next x) _ how did.sends did.output more.sends more.output (ap (λ (o : Outcome ToolDeeds (X × ClientState) F). trace_of finish_of o next) c.3) more.ended;
          link = appended_on before.link.sent after.link.sent s'' did.sends more.sends c.4.0 more.link;
          sink = appended_on before.held after.held h'' did.output more.output c.4.1 more.sink;
        }

-- a tool that ended at its setup, or went on after it
unset : (order : Order) (next : List DeviceInfo → ClientState → Trace) (input : List ℕ) (r : Result (List DeviceInfo) ToolEnd) (how : ToolEnd) (link link' : LinkSight) (h : Option (List ℕ)) → r ≡ Err how →
    OnLink r (setup_answer order input) (client_after_setup order input) (setup_bytes order) link link' → ObservedTrace (connects order input next) how link.sent link'.sent h h
unfolding connects
unset order next input (Ok devices) how link link' h is on = absurd (cc)
unset order next input (Err how') how link link' h is (inl on) =
    let rest = after_answer (setup_answer order input) (client_after_setup order input) next in
    let bytes = setup_bytes order in
    let same : how' ≡ how = cc in
    record {
      sends = on.1.front;
      output = [];
      ended = ended_early (sends_first bytes rest) how on.1.front [] (on.1.rest ++ rest.sends) rest.output (ap is_outer (sym same) ∙ on.0) (ap (λ l. l ++ rest.sends) on.1.whole ∙ append_assoc on.1.front on.1.rest rest.sends) refl;
      link = on.1.appended;
      sink = appended_none h;
    }
unset order next input (Err how') how link link' h is (inr on) =
    let same : how' ≡ how = cc in
    record {
      sends = setup_bytes order;
      output = [];
      ended = rw on.2 (ended_at_once _ how (setup_bytes order) [] (append-nil (setup_bytes order)) refl (sym same ∙ on.1));
      link = on.3;
      sink = appended_none h;
    }

module _ {L : Type 0} (order : Order) (next : List DeviceInfo → ClientState → Trace) {left sent : L → Option (List ℕ)} {faults : L → ℕ} {old new : L} {ring : RingState} {input : List ℕ} where
  setup_link : (r : Result (List DeviceInfo) ConnFault) → IsSetUp order left sent faults old new ring r → left old ≡ Some input →
      OnLink (part_answer r) (setup_answer order input) (client_after_setup order input) (setup_bytes order) (record { left = left old; client = new_client order ring; sent = sent old }) (record { left = left new; client = new_client order ring; sent = sent new })
  setup_link r is told = on_link r _ _ _ _ _ is.sends (setup_known order left sent faults old new ring input r is told)

  pub setup_stops : (f : ConnFault) {how : ToolEnd} {h : Option (List ℕ)} → how ≡ fault_end f → IsSetUp order left sent faults old new ring (Err f) → left old ≡ Some input → ObservedTrace (connects order input next) how (sent old) (sent new) h h
  setup_stops f {how} {h} same is told =
      let link : L → LinkSight = λ l. record { left = left l; client = new_client order ring; sent = sent l } in
      unset order next input (Err (fault_end f)) how (link old) (link new) h (ap (λ (e : ToolEnd). (let r : Result (List DeviceInfo) ToolEnd = Err e in r)) (sym same)) (setup_link (Err f) is told)

  pub setup_goes_on : {devices : List DeviceInfo} {how : ToolEnd} {s'' h h' : Option (List ℕ)} → IsSetUp order left sent faults old new ring (Ok devices) → left old ≡ Some input →
      ((a : List ℕ) → left new ≡ Some a → ObservedTrace (next devices (new_client order ring a)) how (sent new) s'' h h') → ObservedTrace (connects order input next) how (sent old) s'' h h'
  unfolding connects
  setup_goes_on {devices} {how} {s''} is told rest =
      let on = setup_link (Ok devices) is told in
      let more = rest on.1.0 on.1.1 in
      let bytes = setup_bytes order in
      let whole : connects order input next ≡ sends_first bytes (next devices (new_client order ring on.1.0)) =
      ap (λ (r : Result (List DeviceInfo) ConnFault). sends_first bytes (after_answer r (client_after_setup order input) next)) on.0 ∙ ap (λ (v : ClientState). sends_first bytes (next devices v)) on.1.2 in
      record {
        sends = bytes ++ more.sends;
        output = more.output;
        ended = ended_then (next devices (new_client order ring on.1.0)) _ how bytes [] more.sends more.output whole more.ended;
        link = appended_on (sent old) (sent new) s'' bytes more.sends on.2 more.link;
        sink = more.sink;
      }
