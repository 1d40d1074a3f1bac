-- Requests on the two links of a relay, how its parts go by them, and how a relay follows its trace by its parts.
use Rattle.std.proofs.Common.{◌≡◌, ◌<◌, ◌-◌, ◌++◌, ℕ, zero, suc, true, arith, List, [], ap, ap₂, ◌∙◌, append_assoc, refl, inl, inr}
use Rattle.std.specs.Prelude.{Result, Ok, Err, Option, None}
use Rattle.af_toolkit.specs.Parts.{Came, Goes, IsFront, IsProgramKind, Outcome, Stopped, called, end_among, followed, goes_on, outcome, part_among}
use Rattle.af_toolkit.proofs.PartLemmas.{front_followed, goes_by}
use Rattle.af_request.specs.Asked.{Asked}
use Rattle.af_request.specs.Answer.{Answer}
use Rattle.af_request.specs.Requests.{request_bytes}
use Rattle.af_io.specs.Observed.{Appended}
use Rattle.af_lib.specs.declared.fault.ConnFault.{ConnFault}
use Rattle.af_lib.specs.Calls.{Called, ConnState}
use Rattle.af_toolkit.specs.declared.end.ToolEnd.{ToolEnd}
use Rattle.af_toolkit.specs.Trace.{Finish, ClientState, answer_on, after_reply, refused, tool_end}
use Rattle.af_toolkit.specs.Ends.{is_outer}
use Rattle.af_cli.specs.declared.job.PassJob.{PassJob}
use Rattle.af_relay.specs.declared.pass.RelayPace.{RelayPace}
use Rattle.af_relay.specs.declared.pass.RelayProgress.{RelayProgress}
use Rattle.af_toolkit.specs.ToolParts.{IsClientOf, LinkSight, link_sight}
use Rattle.af_relay.specs.RelayParts.{MatchesRelay, relaying}
use Rattle.af_relay.specs.Pass.{Both, RelayDeeds, RelayPart, RelayTrace, asks_from, asks_to, both, deeds, doing, finish_of, on_from, on_to, passes, passes_block, relay_of}
use Rattle.af_io.proofs.AppendedLemmas.{appended_none, appended_on}
use Rattle.af_toolkit.proofs.ToolPartLemmas.{OnLink, call_on_link, part_answer, ended_at_once, ended_early, ended_then}

pub is_relaying : {F : Type 0} (finish_of : F → Finish) → IsProgramKind (relaying finish_of)
is_relaying finish_of = record {
  nothing_first = λ d. refl;
  joined_twice = λ d e f. simp append_assoc;
  shows_nothing = λ o. (appended_none o.from.sent, appended_none o.to.sent, refl);
  shows_joined = λ o p q d e shows more. (
    appended_on o.from.sent p.from.sent q.from.sent d.from e.from shows.0 more.0,
    appended_on o.to.sent p.to.sent q.to.sent d.to e.to shows.1 more.1,
    ap₂ (λ (a b : List ℕ). a ++ b) shows.2 more.2,
  );
}

pub is_relay : IsProgramKind (relaying refused)
is_relay = is_relaying refused

-- bytes that are sent on one of the links
abbrev pub on_first : List ℕ → RelayDeeds
on_first bytes = deeds bytes [] []

abbrev pub on_second : List ℕ → RelayDeeds
on_second bytes = deeds [] bytes []

-- a message on one of the links that did not come to a value
pub sent_stopped : {X : Type 0} (place : List ℕ → RelayDeeds) → ((a b : List ℕ) → place (a ++ b) ≡ doing.joined (place a) (place b)) → {how : ToolEnd} (answer : Result X ConnFault) (after : ClientState) (bytes : List ℕ) (there : Both ClientState) (link link' : LinkSight) →
    OnLink {X = X} (Err how) answer after bytes link link' → (sends : List ℕ) × Stopped (relaying refused) (called (place bytes) answer there) how (place sends) × Appended link.sent sends link'.sent
sent_stopped place placed answer after bytes there link link' (inl on) = (on.1.front, inl (on.0, (place on.1.rest, ap place on.1.whole ∙ placed on.1.front on.1.rest)), on.1.appended)
sent_stopped {X} place placed answer after bytes there link link' (inr on) = (bytes, inr (on.0, on.1, ap (λ (r : Result X ConnFault). called (place bytes) r there) on.2), on.3)

-- one of the links, while the other stands still
module _ {X : Type 0} (answer : Result X ConnFault) (after : ClientState) (bytes : List ℕ) (at : Both ClientState) where
  from_came : (r : Result X ToolEnd) (link link' other : LinkSight) → OnLink r answer after bytes link link' → IsClientOf other at.to → Came (relaying refused) (called (on_first bytes) answer (both after at.to)) r (both link other) (both link' other)
  from_came (Ok x) link link' other on stands = (_, (on.1, stands), _, ap (λ (r : Result X ConnFault). called (on_first bytes) r (both after at.to)) on.0, (on.2, appended_none other.sent, refl))
  from_came (Err how) link link' other on stands = let s = sent_stopped on_first (λ a b. refl) answer after bytes (both after at.to) link link' on in (on_first s.0, s.1, (s.2, appended_none other.sent, refl))

  to_came : (r : Result X ToolEnd) (link link' other : LinkSight) → OnLink r answer after bytes link link' → IsClientOf other at.from → Came (relaying refused) (called (on_second bytes) answer (both at.from after)) r (both other link) (both other link')
  to_came (Ok x) link link' other on stands = (_, (stands, on.1), _, ap (λ (r : Result X ConnFault). called (on_second bytes) r (both at.from after)) on.0, (appended_none other.sent, on.2, refl))
  to_came (Err how) link link' other on stands = let s = sent_stopped on_second (λ a b. refl) answer after bytes (both at.from after) link link' on in (on_second s.0, s.1, (appended_none other.sent, s.2, refl))

-- a call of one of the connections
module _ {L X : Type 0} {left sent : L → Option (List ℕ)} {faults : L → ℕ} {asked : Asked} {value_of : Answer → Option X} {old new : ConnState L} {result : Result X ConnFault}
    (call : Called left sent faults asked value_of old new result) (usable : old.cause ≡ None) where
  pub asked_from : {other : LinkSight} → Goes (relaying refused) (asks_from asked value_of) (part_answer result) (both (link_sight left sent old) other) (both (link_sight left sent new) other)
  unfolding asks_from
  asked_from {other} = record { came = λ at stands. from_came (answer_on asked value_of at.from) (after_reply at.from) (request_bytes at.from.order asked) at (part_answer result) _ _ other (call_on_link call usable at.from stands.0) stands.1 }

  pub asked_to : {other : LinkSight} → Goes (relaying refused) (asks_to asked value_of) (part_answer result) (both other (link_sight left sent old)) (both other (link_sight left sent new))
  unfolding asks_to
  asked_to {other} = record { came = λ at stands. to_came (answer_on asked value_of at.to) (after_reply at.to) (request_bytes at.to.order asked) at (part_answer result) _ _ other (call_on_link call usable at.to stands.1) stands.0 }

-- one of the blocks that are left is the next
pub passes_next : (n : ℕ) (job : PassJob) (pace : RelayPace) (passed : RelayProgress) → 0 < n → passes n job pace passed ≡ goes_on doing (passes_block job pace passed) (λ passed. passes (n - 1) job pace passed)
passes_next zero job pace passed some = absurd (omega (arith, some))
passes_next (suc n) job pace passed some = let less : suc n - 1 ≡ n = omega arith in rw less refl

-- a relay that did the first of its deeds before something from outside ended it
pub matches_early : {relay : RelayTrace} {how : ToolEnd} {did : RelayDeeds} → is_outer how ≡ true → IsFront doing did relay.did → MatchesRelay relay how did
matches_early {relay} {how} {did} outer front = record {
  recorded = ended_early (on_from relay) how did.from did.output front.0.from front.0.output outer (ap (λ (d : RelayDeeds). d.from) front.1) (ap (λ (d : RelayDeeds). d.output) front.1);
  played = ended_early (on_to relay) how did.to did.output front.0.to front.0.output outer (ap (λ (d : RelayDeeds). d.to) front.1) (ap (λ (d : RelayDeeds). d.output) front.1);
}

-- one that did all of them
pub matches_whole : (relay : RelayTrace) {how : ToolEnd} → how ≡ tool_end relay.finish → MatchesRelay relay how relay.did
matches_whole relay {how} way = record {
  recorded = ended_at_once (on_from relay) how relay.did.from relay.did.output refl refl way;
  played = ended_at_once (on_to relay) how relay.did.to relay.did.output refl refl way;
}

-- A relay that begins with a part that ends for faults alone: it ended within that, or went on by its value.
module _ {X : Type 0} (part : RelayPart ConnFault X) (next : X → RelayPart Finish (Unit {0})) {at : Both ClientState} {how : ToolEnd} {did : RelayDeeds} where
  pub relay_stops : Stopped (relaying refused) (part at) how did → MatchesRelay (relay_of (goes_on doing (part_among refused part) next at)) how did
  unfolding goes_on
  relay_stops (inl within) = matches_early within.0 (front_followed (is_relaying (λ f. f)) did (part at).did (end_among refused (part at).end) (λ y. next y.0 y.1) within.1)
  relay_stops (inr ended) =
      let whole = ap (λ (o : Outcome RelayDeeds (X × Both ClientState) ConnFault). relay_of (followed doing o.did (end_among refused o.end) (λ y. next y.0 y.1))) ended.2 in
      rw whole (matches_whole (record { did = did; finish = refused ended.0 }) ended.1)

  pub relay_goes_on : {x : X} {there : Both ClientState} {more : RelayDeeds} → part at ≡ outcome did (Ok (x, there)) → MatchesRelay (relay_of (next x there)) how more →
      MatchesRelay (relay_of (goes_on doing (part_among refused part) next at)) how (doing.joined did more)
  relay_goes_on {x} {there} {more} is m =
      let then = relay_of (next x there) in
      let whole = goes_by doing (part_among refused part) next (ap (λ (o : Outcome RelayDeeds (X × Both ClientState) ConnFault). outcome o.did (end_among refused o.end)) is) in
      rw whole (record {
        recorded = ended_then (on_from then) _ how did.from did.output more.from more.output refl m.recorded;
        played = ended_then (on_to then) _ how did.to did.output more.to more.output refl m.played;
      })
