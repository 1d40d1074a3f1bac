-- The trace of a machine breaks no rule of a call.
use Rattle.std.proofs.Common.{◌≡◌, ◌∙◌, ℕ, ◌+◌, ◌==◌, ◌||◌, ◌&&◌, nat_lt, unwrap_or, if◌then◌else◌, Bool, true, false, List, [], ◌∷◌, ◌++◌, map, drop, sym, subst, ap, refl, Result, Ok, Err, Option, None, Some, is_some}
use Rattle.af_time.specs.declared.DevTime.{DevTime}
use Rattle.af_wire.specs.declared.event.Event.{Event}
use Rattle.af_wire.specs.declared.event.EventKind.{EventKind}
use Rattle.af_wire.specs.declared.event.EventKind.TheVariants as kind
use Rattle.af_process.specs.declared.act.BeganGot.{BeganGot}
use Rattle.af_process.specs.declared.act.BeganGot.TheVariants as got
use Rattle.af_request.specs.Asked.{Asked}
use Rattle.af_request.specs.Answer.{Answer}
use Rattle.af_lib.specs.declared.fault.ConnFault.{ConnFault}
use Rattle.af_toolkit.specs.Parts.{answered, end_among, followed, goes_on, has_value}
use Rattle.af_toolkit.specs.Trace.{ClientState}
use Rattle.af_attendant.specs.declared.job.AttendantJob.{AttendantJob}
use Rattle.af_attendant.specs.declared.ran.EndCause.{EndCause}
use Rattle.af_attendant.specs.Line.{LineState, asks_end, heard_by, in_call, is_hang_up, is_stop, is_taken, line_after}
use Rattle.af_attendant.specs.AttendantTrace.{AttendantFinish, AttendantOutcome, AttendantPart, Effect, ToCome, Work, cause_by, ends_if, exchanges, hears_all, hears_event, hears_these, takes_oldest, sending, sends_byte, working, writes_byte, writing}
use Rattle.af_attendant.specs.Rules.{LeftAt, heard_at, Stage, ending, off_hook, on_hook, running, sent_at, stage_after, stages, then_stage, was_ended}

module _ (job : AttendantJob) where
  stages_on : (w v : Work) (from : Stage) {middle : Stage} → stages job w from ≡ Some middle → stages job (w ++ v) from ≡ stages job v middle
  stages_on [] v from is = let same : from ≡ _ = cc in ap (λ (s : Stage). stages job v s) same
  stages_on (e ∷ w) v from {middle} is =
      elim (stage_after job e from) as (λ s. then_stage (stages job w) s ≡ Some middle → then_stage (stages job (w ++ v)) s ≡ stages job v middle) [
        | None ↦ λ none. cc none
        | Some s ↦ λ more. stages_on w v s more
      ] is

  -- the first of some work breaks no rule that all of it keeps
  pub front_stages : (w v : Work) (from : Stage) {last : Stage} → stages job (w ++ v) from ≡ Some last → (middle : Stage) × (stages job w from ≡ Some middle)
  front_stages [] v from is = (from, refl)
  front_stages (e ∷ w) v from {last} is =
      elim (stage_after job e from) as (λ s. then_stage (stages job (w ++ v)) s ≡ Some last → (middle : Stage) × (then_stage (stages job w) s ≡ Some middle)) [
        | None ↦ λ none. cc none
        | Some s ↦ λ more. front_stages w v s more
      ] is

  -- bytes that are sent and written leave the stage as it is
  sent_stages : (bytes : List ℕ) (s : Stage) → sent_at s ≡ Some s → stages job (sending bytes) s ≡ Some s
  sent_stages [] s is = refl
  sent_stages (b ∷ bytes) s is = rw is (sent_stages bytes s is)

  pub written_stages : (bytes : List ℕ) → stages job (writing bytes) on_hook ≡ Some on_hook
  written_stages [] = refl
  written_stages (b ∷ bytes) = written_stages bytes

  -- a part that has come to a value has this, and one that ends the machine leaves it so
  abbrev pub EndsSo : {X : Type 0} → Result (X × ToCome) AttendantFinish → (X → ToCome → Stage → Type 0) → Stage → Type 0
  EndsSo (Ok y) Q stage = Q y.0 y.1 stage
  EndsSo (Err finish) Q stage = LeftAt finish stage

  -- from a stage a part breaks no rule
  pub record Keeps {X : Type 0} (from : Stage) (o : AttendantOutcome X) (Q : X → ToCome → Stage → Type 0) : Type 0 where
    pub stage : Stage
    pub rules : stages job o.did from ≡ Some stage
    pub ends : EndsSo o.end Q stage

  followed_keeps : {X Y : Type 0} {Q : X → ToCome → Stage → Type 0} {R : Y → ToCome → Stage → Type 0} (from : Stage) (did : Work) (end : Result (X × ToCome) AttendantFinish) (next : X → AttendantPart Y) (middle : Stage) → stages job did from ≡ Some middle → EndsSo end Q middle →
      ((x : X) (b : ToCome) (s : Stage) → Q x b s → Keeps s (next x b) R) → Keeps from (followed working did end (λ y. next y.0 y.1)) R
  followed_keeps from did (Ok y) next middle rules ends more =
      let k = more y.0 y.1 middle ends in
      record { stage = k.stage; rules = stages_on did (next y.0 y.1).did from rules ∙ k.rules; ends = k.ends }
  followed_keeps from did (Err finish) next middle rules ends more = record { stage = middle; rules = rules; ends = ends }

  pub keeps_on : {X Y : Type 0} {Q : X → ToCome → Stage → Type 0} {R : Y → ToCome → Stage → Type 0} {from : Stage} (part : AttendantPart X) (next : X → AttendantPart Y) (a : ToCome) → Keeps from (part a) Q → ((x : X) (b : ToCome) (s : Stage) → Q x b s → Keeps s (next x b) R) → Keeps from (goes_on working part next a) R
  unfolding goes_on
  keeps_on {from = from} part next a k more = followed_keeps from (part a).did (part a).end next k.stage k.rules k.ends more

  pub keeps_value : {X : Type 0} {Q : X → ToCome → Stage → Type 0} {from : Stage} (x : X) (a : ToCome) → Q x a from → Keeps from (has_value working x a) Q
  keeps_value {from = from} x a is = record { stage = from; rules = refl; ends = is }

  -- a message is sent and answered
  exchange_ends : {X : Type 0} (reason : ConnFault → AttendantFinish) (r : Result X ConnFault) (b : ToCome) (s : Stage) → ((f : ConnFault) → LeftAt (reason f) s) → EndsSo {X = X} (answered (end_among reason r) b) (λ x c t. (t ≡ s) × (c.line ≡ b.line)) s
  exchange_ends reason (Ok x) b s left = (refl, refl)
  exchange_ends reason (Err f) b s left = left f

  pub keeps_exchange : {X : Type 0} (reason : ConnFault → AttendantFinish) (mark : Work) (bytes : ClientState → List ℕ) (answer : ClientState → Result X ConnFault) (after : ClientState → ClientState) (a : ToCome) (from to : Stage) → stages job mark from ≡ Some to → sent_at to ≡ Some to → ((f : ConnFault) → LeftAt (reason f) to) →
      Keeps from (exchanges reason mark bytes answer after a) (λ x b s. (s ≡ to) × (b.line ≡ a.line))
  keeps_exchange reason mark bytes answer after a from to marked sends left = record {
    stage = to;
    rules = stages_on mark (sending (bytes a.wire)) from marked ∙ sent_stages (bytes a.wire) to sends;
    ends = exchange_ends reason (answer a.wire) (record a { wire = after a.wire }) to left;
  }

-- whether the caller has hung up, after an event
heard_gone : (k : EventKind) (value : ℕ) (l : LineState) → is_some (heard_by k value l).gone ≡ (is_stop k value || is_some l.gone)
heard_gone kind.Ring value l = elim (value == 1 && nat_lt l.rings 1000000) as (λ b. is_some (if b then record l { rings = l.rings + 1 } else l).gone ≡ is_some l.gone) [ true ↦ refl | false ↦ refl ]
heard_gone kind.Hook value l = elim (value == 1) as (λ b. is_some (if b then record l { rings = 0 } else l).gone ≡ is_some l.gone) [ true ↦ refl | false ↦ refl ]
heard_gone kind.Current value l = elim (value == 0) as (λ b. is_some (if b then record l { digits = []; gone = Some (unwrap_or l.gone l.digits) } else l).gone ≡ (b || is_some l.gone)) [ true ↦ refl | false ↦ refl ]
heard_gone kind.Digit value l = refl

gone_after : (job : AttendantJob) (e : Event) (l : LineState) → is_some (line_after job e l).gone ≡ (is_hang_up job e || is_some l.gone)
gone_after job e l = elim (e.device == job.answer.device) as (λ b. is_some (if b then heard_by e.kind e.value l else l).gone ≡ ((b && is_stop e.kind e.value) || is_some l.gone)) [ true ↦ heard_gone e.kind e.value l | false ↦ refl ]

-- the stage by the line: the hook is off and no command runs; one runs; its end was asked for
abbrev pub OffBy : ToCome → Stage → Type 0
OffBy b s = s ≡ off_hook (is_some b.line.gone)

abbrev pub RunsBy : (runs : Bool) → ToCome → Stage → Type 0
RunsBy runs b s = s ≡ running (is_some b.line.gone) runs

abbrev pub EndedBy : ToCome → Stage → Type 0
EndedBy b s = s ≡ was_ended (is_some b.line.gone)

-- what holds of a command after events were heard
abbrev pub HeardBy : (runs : Bool) → Option EndCause → ToCome → Stage → Type 0
HeardBy runs None b s = RunsBy runs b s
HeardBy runs (Some cause) b s = (runs ≡ true) × EndedBy b s

-- a choice is made within, or without
heard_choice : (asks gone : Bool) → (if asks then Some (ending gone) else Some (running gone true)) ≡ Some (if asks then ending gone else running gone true)
heard_choice true gone = refl
heard_choice false gone = refl

module _ (job : AttendantJob) where
  pub keeps_heard : (e : Event) (a : ToCome) (from to : Stage) → heard_at job e from ≡ Some to → Keeps job from (hears_event job e a) (λ x b s. (s ≡ to) × (b.line ≡ line_after job e a.line))
  keeps_heard e a from to is = record { stage = to; rules = ap (λ s. then_stage (stages job []) s) is; ends = (refl, refl) }

  keeps_taken : (a : ToCome) (from : Stage) → Keeps job from (takes_oldest a) (λ x b s. (s ≡ from) × (b.line ≡ a.line))
  keeps_taken a from = record { stage = from; rules = refl; ends = (refl, refl) }

  -- while no command runs
  pub off_hears : (events : List Event) (asked : Option EndCause) (a : ToCome) (s : Stage) → OffBy a s → Keeps job s (hears_these job false asked events a) (λ x b t. OffBy b t)
  unfolding hears_these
  off_hears [] asked a s is = keeps_value job asked a is
  off_hears (e ∷ events) asked a s is =
      keeps_on job takes_oldest _ a (keeps_taken a s) (λ x b t q.
      keeps_on job (hears_event job e) _ b (keeps_heard e b t (off_hook (is_hang_up job e || is_some a.line.gone)) (rw (q.0, is) refl)) (λ y c u r.
      keeps_on job (ends_if false) _ c (keeps_value job tt c (let off : OffBy c u = r.0 ∙ ap off_hook (ap (λ (l : LineState). is_hang_up job e || is_some l.gone) (sym q.1) ∙ sym (gone_after job e b.line) ∙ ap (λ (l : LineState). is_some l.gone) (sym r.1)) in off)) (λ z d v off.
      off_hears events asked d v off)))

  -- beside a command whose end was asked for, and beside one that runs
  pub ended_hears : (events : List Event) (cause : EndCause) (a : ToCome) (s : Stage) → EndedBy a s → Keeps job s (hears_these job true (Some cause) events a) (λ x b t. HeardBy true x b t)
  unfolding hears_these
  ended_hears [] cause a s is = keeps_value job (Some cause) a (refl, is)
  ended_hears (e ∷ events) cause a s is =
      keeps_on job takes_oldest _ a (keeps_taken a s) (λ x b t q.
      keeps_on job (hears_event job e) _ b (keeps_heard e b t (was_ended (is_hang_up job e || is_some a.line.gone)) (rw (q.0, is) refl)) (λ y c u r.
      keeps_on job (ends_if false) _ c (keeps_value job tt c (let off : EndedBy c u = r.0 ∙ ap was_ended (ap (λ (l : LineState). is_hang_up job e || is_some l.gone) (sym q.1) ∙ sym (gone_after job e b.line) ∙ ap (λ (l : LineState). is_some l.gone) (sym r.1)) in off)) (λ z d v off.
      ended_hears events cause d v off)))

  pub idle_hears : (events : List Event) (a : ToCome) (s : Stage) → RunsBy false a s → Keeps job s (hears_these job false None events a) (λ x b t. HeardBy false x b t)
  unfolding hears_these
  idle_hears [] a s is = keeps_value job None a is
  idle_hears (e ∷ events) a s is =
      keeps_on job takes_oldest _ a (keeps_taken a s) (λ x b t q.
      keeps_on job (hears_event job e) _ b (keeps_heard e b t (running (is_hang_up job e || is_some a.line.gone) false) (rw (q.0, is) refl)) (λ y c u r.
      keeps_on job (ends_if false) _ c (keeps_value job tt c (let off : RunsBy false c u = r.0 ∙ ap (λ (g : Bool). running g false) (ap (λ (l : LineState). is_hang_up job e || is_some l.gone) (sym q.1) ∙ sym (gone_after job e b.line) ∙ ap (λ (l : LineState). is_some l.gone) (sym r.1)) in off)) (λ z d v off.
      idle_hears events d v off)))

  -- what follows an event that asks for the end, or not
  abbrev after_event : Bool → Bool → Stage
  after_event asks gone = if asks then ending gone else running gone true

  module _ (e : Event) (events : List Event) (more : (a : ToCome) (s : Stage) → RunsBy true a s → Keeps job s (hears_these job true None events a) (λ x b t. HeardBy true x b t)) where
    run_on : (asks : Bool) (a : ToCome) (s : Stage) → s ≡ after_event asks (is_some a.line.gone) → Keeps job s (goes_on working (ends_if asks) (λ _. hears_these job true (if asks then Some (cause_by e.kind) else None) events) a) (λ x b t. HeardBy true x b t)
    run_on true a s is =
        keeps_on job {Q = λ x b t. EndedBy b t} (ends_if true) _ a (record { stage = was_ended (is_some a.line.gone); rules = rw is refl; ends = refl }) (λ x b t off. ended_hears events (cause_by e.kind) b t off)
    run_on false a s is = keeps_on job {Q = λ x b t. RunsBy true b t} (ends_if false) _ a (keeps_value job tt a is) (λ x b t off. more b t off)

  pub runs_hears : (events : List Event) (a : ToCome) (s : Stage) → RunsBy true a s → Keeps job s (hears_these job true None events a) (λ x b t. HeardBy true x b t)
  unfolding hears_these
  runs_hears [] a s is = keeps_value job None a is
  runs_hears (e ∷ events) a s is =
      keeps_on job takes_oldest _ a (keeps_taken a s) (λ x b t q.
      keeps_on job (hears_event job e) _ b (keeps_heard e b t (after_event (asks_end job e) (is_hang_up job e || is_some a.line.gone)) (rw (q.0, is) (heard_choice (asks_end job e) _))) (λ y c u r.
      run_on e events (runs_hears events) (asks_end job e) c u (r.0 ∙ ap (after_event (asks_end job e)) (ap (λ (l : LineState). is_hang_up job e || is_some l.gone) (sym q.1) ∙ sym (gone_after job e b.line) ∙ ap (λ (l : LineState). is_some l.gone) (sym r.1)))))

-- what a part ends in says more
keeps_ends : {X : Type 0} (job : AttendantJob) {Q R : X → ToCome → Stage → Type 0} (end : Result (X × ToCome) AttendantFinish) (s : Stage) → EndsSo job end Q s → ((x : X) (b : ToCome) (t : Stage) → Q x b t → R x b t) → EndsSo job end R s
keeps_ends job (Ok y) s ends more = more y.0 y.1 s ends
keeps_ends job (Err finish) s ends more = ends

pub keeps_as : {X : Type 0} (job : AttendantJob) {Q R : X → ToCome → Stage → Type 0} {from : Stage} (o : AttendantOutcome X) → Keeps job from o Q → ((x : X) (b : ToCome) (t : Stage) → Q x b t → R x b t) → Keeps job from o R
keeps_as job {Q} {R} o k more = record { stage = k.stage; rules = k.rules; ends = keeps_ends job {Q = Q} {R = R} o.end k.stage k.ends more }
