-- A part of a tool that waits for a frame first: how code comes through it, and what it sent.
use Rattle.std.proofs.Common.{◌≡◌, ◌<◌, ◌≤◌, ◌+◌, ◌-◌, ◌%◌, ◌^◌, ◌++◌, ◌∙◌, ℕ, nat_lt, [], ap, sym, refl, subst, arith, inl, inr, if◌then◌else◌, Bool, Option, None, Some, Result, Ok, Err, IsOk, true, false}
use Rattle.std.specs.Prelude.{option_and_then}
use Rattle.std.proofs.lemmas.Option.{none-some, same_Some}
use Rattle.std.proofs.lemmas.Bool.{cases_lt}
use Rattle.std.proofs.lemmas.Bool.Decides.{nat_tests}
use Rattle.af_toolkit.specs.Parts.{Goes, Outcome, after_deeds, goes_on, has_value, outcome}
use Rattle.af_toolkit.proofs.PartLemmas.{first_ok, goes_by, goes_on_twice, goes_stop, goes_through, value_first}
use Rattle.af_request.specs.Answer.{Answer}
use Rattle.af_request.specs.Asked.{Asked, record_run}
use Rattle.af_request.specs.Requests.{request_bytes}
use Rattle.af_lib.specs.Calls.{Recorded, as_recorded}
use Rattle.af_lib.specs.declared.fault.ConnFault.{ConnFault}
use Rattle.af_toolkit.specs.declared.end.ToolEnd.{ToolEnd}
use Rattle.af_toolkit.specs.Trace.{ClientState, after_reply, refused}
use Rattle.af_toolkit.specs.ToolParts.{ToolDeeds, ToolPart, ToolSight, asks, deeds, doing, tooling}
use Rattle.af_toolkit.proofs.ToolEndLemmas.{asks_answered}
use Rattle.af_toolkit.proofs.ToolPartLemmas.{is_tool}
use Rattle.af_tools.specs.declared.pace.Course.{Course}
use Rattle.af_tools.specs.declared.pace.Pace.{Pace}
use Rattle.af_tools.specs.Pacing.{awaited, block_time, once_past, paced_block, unless_past, waiting_bytes, StaysNear}
use Rattle.af_toolkit.specs.Lost.{time_before}

-- at least one frame is asked for
pub paced_some : (ahead : Option ℕ) (block : ℕ) → 1 ≤ block → 1 ≤ paced_block ahead block
paced_some None block some = some
paced_some (Some frames) block some = omega arith

module _ {X : Type 0} (frame : ℕ) (at : Option ℕ) (part : ToolPart X) where
  abbrev waits : (at : Option ℕ) → ToolPart (Unit {0})
  waits at = once_past frame at (has_value doing tt)

  -- to wait and then to go on
  past_first : (at : Option ℕ) → goes_on doing (waits at) (λ _. part) ≡ once_past frame at part
  past_first None = value_first is_tool tt (λ _. part)
  past_first (Some at) =
      goes_on_twice is_tool (asks (record_run true 1 at frame) (as_recorded true frame)) (λ _. has_value doing tt) (λ _. part)
      ∙ ap (λ (p : ToolPart X). goes_on doing (asks (record_run true 1 at frame) (as_recorded true frame)) (λ _. p)) (value_first is_tool tt (λ _. part))

  pub past_stops : {how : ToolEnd} {result : Result X ToolEnd} {o p : ToolSight} → result ≡ Err how → Goes {X = Unit {0}} (tooling refused) (once_past frame at (has_value doing tt)) (Err how) o p → Goes (tooling refused) (once_past frame at part) result o p
  past_stops {result = result} {o} {p} same goes = subst (λ (w : ToolPart X). Goes (tooling refused) w result o p) (past_first at) (goes_stop is_tool (λ _. part) same goes)

  pub past_goes : {result : Result X ToolEnd} {o p q : ToolSight} → Goes {X = Unit {0}} (tooling refused) (once_past frame at (has_value doing tt)) (Ok tt) o p → Goes (tooling refused) part result p q → Goes (tooling refused) (once_past frame at part) result o q
  past_goes {result} {o} {q = q} waited goes = subst (λ (w : ToolPart X). Goes (tooling refused) w result o q) (past_first at) (goes_through is_tool (λ _. part) waited goes)

-- a request that was answered after that
pub once_done : {X : Type 0} (frame : ℕ) (at : Option ℕ) (asked : Asked) (value_of : Answer → Option X) (w : ClientState) → IsOk (once_past frame at (asks asked value_of) w).end →
    (x : X) × (v : ClientState) × (v.order ≡ w.order) × (once_past frame at (asks asked value_of) w ≡ outcome (deeds (waiting_bytes w.order frame at ++ request_bytes w.order asked) []) (Ok (x, v)))
once_done frame None asked value_of w ok = let a = asks_answered asked value_of w ok in (a.0, after_reply w, refl, a.2)
once_done {X} frame (Some at) asked value_of w ok =
    let heard = record_run true 1 at frame in
    let next : Recorded → ToolPart X = λ _. asks asked value_of in
    let a = asks_answered heard (as_recorded true frame) w (first_ok doing (asks heard (as_recorded true frame)) next w ok) in
    let more = goes_by doing (asks heard (as_recorded true frame)) next a.2 in
    let b = asks_answered asked value_of (after_reply w) (subst (λ (o : Outcome ToolDeeds (X × ClientState) ConnFault). IsOk o.end) more ok) in
    (b.0, after_reply (after_reply w), refl, more ∙ ap (after_deeds doing (deeds (request_bytes w.order heard) [])) b.2)

-- a time that is waited for is not past, and one that is not waited for is
waited_for : (b : Bool) (at time : ℕ) → (let o : Option ℕ = if b then Some at else None in o ≡ Some time) → time ≡ at
waited_for true at time is = sym (same_Some at time is)
waited_for false at time is = absurd (none-some time is)

is_past : (told at : ℕ) → unless_past told at ≡ None → 2 ^ 31 ≤ (at + (2 ^ 32 - told)) % 2 ^ 32
is_past told at is = elim (cases_lt ((at + (2 ^ 32 - told)) % 2 ^ 32) (2 ^ 31)) [
  | inl low ↦
      let near : nat_lt ((at + (2 ^ 32 - told)) % 2 ^ 32) (2 ^ 31) ≡ true = grind (arith, nat_tests) in
      let same : Some at ≡ None = sym (ap (λ (b : Bool). (let o : Option ℕ = if b then Some at else None in o)) near) ∙ is in
      absurd (none-some at (sym same))
  | inr high ↦ high
]

module _ (frames at now : ℕ) (some : 0 < frames) (near : at ≤ now + 2 ^ 31) where
  -- in whole times
  near_whole : 2 ^ 31 ≤ (time_before (at % 2 ^ 32) frames + (2 ^ 32 - now % 2 ^ 32)) % 2 ^ 32 → at < now + frames
  near_whole past = omega arith

  before_whole : (time_before (at % 2 ^ 32) frames + frames) % 2 ^ 32 ≡ at % 2 ^ 32
  before_whole = omega arith

-- what is waited for, by how far ahead a block may be sent
awaited_by : (pace : Pace) (course : Course) {frames : ℕ} → pace.ahead ≡ Some frames → awaited pace course ≡ unless_past course.told.0 (time_before (block_time pace.start.0 course.frames) frames)
awaited_by pace course is = ap (λ (o : Option ℕ). option_and_then (λ frames. unless_past course.told.0 (time_before (block_time pace.start.0 course.frames) frames)) o) is

pub stays_near : StaysNear
stays_near pace course frames at now bounded some placed told near =
    let by = awaited_by pace course bounded in
    let time = block_time pace.start.0 course.frames in (
      λ none.
          let past = is_past course.told.0 (time_before time frames) (sym by ∙ none) in
          near_whole frames at now some near (subst (λ (t : ℕ). 2 ^ 31 ≤ (time_before (at % 2 ^ 32) frames + (2 ^ 32 - t)) % 2 ^ 32) (sym told) (subst (λ (t : ℕ). 2 ^ 31 ≤ (time_before t frames + (2 ^ 32 - course.told.0)) % 2 ^ 32) (sym placed) past)),
      λ waited is.
          let same = waited_for _ (time_before time frames) waited (sym by ∙ is) in
          ap (λ (t : ℕ). (t + frames) % 2 ^ 32) same ∙ ap (λ (t : ℕ). (time_before t frames + frames) % 2 ^ 32) (sym placed) ∙ before_whole frames at now some near,
    )
