-- How far a relay came, on each of its two links.
use Rattle.std.specs.Prelude.{◌≡◌, ◌<◌, ◌≤◌, ◌+◌, ◌^◌, ◌⊎◌, ℕ, List, [], Result, Err, IsOk, IsSome, Option, None}
use Rattle.af_toolkit.specs.Parts.{Goes, ProgramKind}
use Rattle.af_io.specs.Observed.{Appended, FaultCounted}
use Rattle.af_lib.specs.declared.fault.ConnFault.{ConnFault}
use Rattle.af_lib.specs.Calls.{ConnState}
use Rattle.af_toolkit.specs.declared.end.ToolEnd.{ToolEnd}
use Rattle.af_toolkit.specs.declared.end.ToolEnd.TheVariants as end
use Rattle.af_toolkit.specs.Trace.{ClientState, Finish, refused, tool_end}
use Rattle.af_toolkit.specs.Ends.{MatchesTrace, is_outer}
use Rattle.af_toolkit.specs.ToolParts.{IsClientOf, LinkSight, link_sight}
use Rattle.af_cli.specs.Sizes.{greatest_block, greatest_play}
use Rattle.af_relay.specs.declared.pass.RelayPace.{RelayPace}
use Rattle.af_relay.specs.Pass.{Both, RelayDeeds, RelayPart, RelayTrace, both, doing, on_from, on_to}

-- Parts of a relay that write nothing, as programs that may end for such causes: each link shows what was sent on it.
abbrev pub relaying : {F : Type 0} → (F → Finish) → ProgramKind (Both ClientState) RelayDeeds F ToolEnd (Both LinkSight)
relaying finish_of = record {
  deeds = doing;
  Reports = λ how cause. how ≡ tool_end (finish_of cause);
  is_outer = is_outer;
  Stands = λ links at. IsClientOf links.from at.from × IsClientOf links.to at.to;
  Shows = λ links did links'.
      Appended links.from.sent did.from links'.from.sent × Appended links.to.sent did.to links'.to.sent × (did.output ≡ []);
}

-- a part of a relay over two connections went so
abbrev pub GoesBetween : {L M X : Type 0} → (left_from sent_from : L → Option (List ℕ)) →
    (left_to sent_to : M → Option (List ℕ)) → (from from' : ConnState L) → (to to' : ConnState M) → RelayPart ConnFault X →
    Result X ToolEnd → Type 0
GoesBetween left_from sent_from left_to sent_to from from' to to' part result = Goes (relaying refused) part result
    (both (link_sight left_from sent_from from) (link_sight left_to sent_to to))
    (both (link_sight left_from sent_from from') (link_sight left_to sent_to to'))

-- two counts of faults never fall, and one of them has risen if this failed
abbrev pub CountsEither : Type 0 → (before now other other' : ℕ) → Type 0
CountsEither failed before now other other' =
    (before ≤ now) × (other ≤ other') × (failed → FaultCounted before now ⊎ FaultCounted other other')

-- What a part does to its connections, whether or not the links are observable.
pub record KeepsConnections {L M X : Type 0} (left_from : L → Option (List ℕ)) (faults_from : L → ℕ)
    (left_to : M → Option (List ℕ)) (faults_to : M → ℕ)
    (from from' : ConnState L) (to to' : ConnState M) (result : Result X ToolEnd) : Type 0 where
  pub usable_from : IsOk result → from'.cause ≡ None
  pub usable_to : IsOk result → to'.cause ≡ None
  pub tells_from : IsSome (left_from from.link) → IsSome (left_from from'.link)
  pub tells_to : IsSome (left_to to.link) → IsSome (left_to to'.link)
  pub counts : CountsEither (result ≡ Err end.LinkFault)
      (faults_from from.link) (faults_from from'.link) (faults_to to.link) (faults_to to'.link)

-- A pace that can be kept: a block has a frame, and it can be recorded, and played with one frame more.
pub record IsPace (pace : RelayPace) : Type 0 where
  pub frames : pace.frames ≤ 4000
  pub some : pace.frame ≤ pace.size
  pub records : pace.size ≤ greatest_block
  pub plays : pace.size + pace.frame ≤ greatest_play
  pub delay : pace.delay < 2 ^ 40

-- A relay ended, and did this: all of its trace, as each of its links sees it, or prefixes if something from outside ended it.
pub record MatchesRelay (relay : RelayTrace) (how : ToolEnd) (did : RelayDeeds) : Type 0 where
  pub recorded : MatchesTrace (on_from relay) how did.from did.output
  pub played : MatchesTrace (on_to relay) how did.to did.output

-- what was sent on each link is appended to what it had been sent
abbrev pub SendsBoth : RelayDeeds → (sent sent' : Both (Option (List ℕ))) → Type 0
SendsBoth did sent sent' = Appended sent.from did.from sent'.from × Appended sent.to did.to sent'.to

-- A relay ended: what it did matches its trace, the sink gained what was written, and this holds of what was sent.
pub record RelayDid (relay : RelayTrace) (how : ToolEnd) (held held' : Option (List ℕ))
    (IsSent : RelayDeeds → Type 0) : Type 0 where
  pub did : RelayDeeds
  pub matches : MatchesRelay relay how did
  pub sink : Appended held did.output held'
  pub sent : IsSent did
