-- How far a part of an answering machine came in its trace.
use Rattle.std.specs.Prelude.{◌≡◌, ◌≢◌, ℕ, Bool, true, false, List, [], Result, Ok, Option, Some}
use Rattle.af_toolkit.specs.Parts.{Goes, ProgramKind}
use Rattle.af_io.specs.Observed.{Appended}
use Rattle.af_process.specs.Acts.{Told}
use Rattle.af_lib.specs.Calls.{ConnState}
use Rattle.af_toolkit.specs.ToolParts.{LinkSight, link_sight}
use Rattle.af_answer.specs.declared.end.AnswerEnd.{AnswerEnd}
use Rattle.af_answer.specs.declared.end.AnswerEnd.TheVariants as end
use Rattle.af_answer.specs.AnswerTrace.{AnswerFinish, MachineDeeds, MachinePart, MachineTrace, ToCome, Work, all_answered}
use Rattle.af_answer.specs.AnswerTrace.{acts_of, child_starved, doing, finish_of, machine_end, sent_by, written_by}
use Rattle.af_answer.specs.Children.{ChildRun}

-- the ends that come from outside: neither the bytes of the link nor the children decide them
abbrev pub is_from_outside : AnswerEnd → Bool
is_from_outside end.DialFault = true
is_from_outside end.LinkFault = true
is_from_outside end.SinkFault = true
is_from_outside end.Done = false
is_from_outside end.Usage = false
is_from_outside end.LinkEnded = false
is_from_outside (end.NoDevice devices) = false
is_from_outside (end.NoLine device) = false
is_from_outside (end.Refused code value) = false
is_from_outside (end.BadReply header first) = false
is_from_outside end.EventFlood = false
is_from_outside end.OutOfMemory = false

-- the ends of a machine within its calls: it sends requests, waits for events, and runs children
abbrev pub is_of_calls : AnswerEnd → Bool
is_of_calls end.LinkFault = true
is_of_calls end.LinkEnded = true
is_of_calls (end.Refused code value) = true
is_of_calls (end.BadReply header first) = true
is_of_calls end.EventFlood = true
is_of_calls end.OutOfMemory = true
is_of_calls end.Done = false
is_of_calls end.Usage = false
is_of_calls end.DialFault = false
is_of_calls (end.NoDevice devices) = false
is_of_calls (end.NoLine device) = false
is_of_calls end.SinkFault = false

-- the ends of a machine on a link that is set up, or is to be
abbrev pub is_of_machine : AnswerEnd → Bool
is_of_machine end.Done = true
is_of_machine (end.NoDevice devices) = true
is_of_machine (end.NoLine device) = true
is_of_machine end.LinkFault = true
is_of_machine end.LinkEnded = true
is_of_machine (end.Refused code value) = true
is_of_machine (end.BadReply header first) = true
is_of_machine end.EventFlood = true
is_of_machine end.SinkFault = true
is_of_machine end.OutOfMemory = true
is_of_machine end.Usage = false
is_of_machine end.DialFault = false

-- a machine ended in one of these ways
abbrev pub MachineEnd : AnswerEnd → Type 0
MachineEnd how = is_of_machine how ≡ true

-- A machine ended and has done this: the first of what its trace has, whose work has one order. If nothing from outside ended it,
-- this is all of that, and the end is that of the trace.
pub record MatchesAnswer (trace : MachineTrace) (how : AnswerEnd) (done : MachineDeeds) : Type 0 where
  pub undone : MachineDeeds
  pub all : trace.did ≡ doing.joined done undone
  pub whole : is_from_outside how ≡ false → (how ≡ machine_end (finish_of trace)) × (undone ≡ doing.nothing)
  -- all was sent and all children were run, unless the link failed
  pub acted : how ≢ end.LinkFault → (sent_by undone.work ≡ []) × (acts_of undone.work ≡ [])
  -- memory runs out only for a child, and the sink fails only where all calls were taken
  pub starved : how ≡ end.OutOfMemory → finish_of trace ≡ child_starved
  pub reported : how ≡ end.SinkFault → finish_of trace ≡ all_answered

-- what is observable of a machine: what its link or its dial tells, the acts of its children, and what its sink holds
pub record Seen (A : Type 0) : Type 0 where
  pub far : A
  pub acts : Option (List Told)
  pub held : Option (List ℕ)

abbrev pub seen_as : {A : Type 0} → A → (acts : Option (List Told)) → (held : Option (List ℕ)) → Seen A
seen_as far acts held = record { far = far; acts = acts; held = held }

-- this work was added to what a link was sent, the acts of the children, and what the sink holds
pub record Added (before : Seen (Option (List ℕ))) (work : Work) (after : Seen (Option (List ℕ))) : Type 0 where
  pub link : Appended before.far (sent_by work) after.far
  pub children : Appended before.acts (acts_of work) after.acts
  pub sink : Appended before.held (written_by work) after.held

-- Answering machines, as programs. How children are going to run is not known before, so where a machine stands goes by it.
abbrev pub answering : ProgramKind ToCome MachineDeeds AnswerFinish AnswerEnd (Seen LinkSight × List ChildRun)
answering = record {
  deeds = doing;
  Reports = λ how finish. (how ≡ machine_end finish) × (how ≡ end.OutOfMemory → finish ≡ child_starved);
  is_outer = is_from_outside;
  Stands = λ p a. (input : List ℕ) × (p.0.far.left ≡ Some input) × (a ≡ record { wire = p.0.far.client input; runs = p.1 });
  Shows = λ p did q. Added (seen_as p.0.far.sent p.0.acts p.0.held) did.work (seen_as q.0.far.sent q.0.acts q.0.held);
}

-- A part of a machine went so: its children ran in some way before those that run later.
pub record Went {X : Type 0} (part : MachinePart X) (result : Result X AnswerEnd) (old new : Seen LinkSight) : Type 0 where
  pub runs : (later : List ChildRun) → List ChildRun
  pub goes : (later : List ChildRun) → Goes answering part result (old, runs later) (new, later)

-- A part that only runs children went so, and this is its value.
abbrev pub RunsBy : {X : Type 0} → (acts acts' : Option (List Told)) → MachinePart X → X → Type 0
RunsBy acts acts' part x = (link : LinkSight) (held : Option (List ℕ)) →
    Went part (Ok x) (seen_as link acts held) (seen_as link acts' held)

-- A part went so over a connection, and wrote nothing.
abbrev pub GoesBy : {L X : Type 0} → (left sent : L → Option (List ℕ)) → (old new : ConnState L) →
    (acts acts' : Option (List Told)) → MachinePart X → Result X AnswerEnd → Type 0
GoesBy left sent old new acts acts' part result = (held : Option (List ℕ)) →
    Went part result (seen_as (link_sight left sent old) acts held) (seen_as (link_sight left sent new) acts' held)
