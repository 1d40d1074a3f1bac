-- How far a part of a machine that hears its caller came in its trace.
use Rattle.std.specs.Prelude.{◌≡◌, ℕ, Bool, true, List, Result, Ok, Option, Some}
use Rattle.af_toolkit.specs.Parts.{Goes, ProgramKind}
use Rattle.af_toolkit.specs.ToolParts.{LinkSight, link_sight}
use Rattle.af_io.specs.Observed.{Appended}
use Rattle.af_command.specs.Acts.{Told}
use Rattle.af_lib.specs.Calls.{ConnState}
use Rattle.af_answer.specs.declared.end.AnswerEnd.{AnswerEnd}
use Rattle.af_answer.specs.declared.end.AnswerEnd.TheVariants as end
use Rattle.af_answer.specs.AnswerParts.{is_from_outside, is_of_calls}
use Rattle.af_attendant.specs.Line.{LineState, fresh_line}
use Rattle.af_attendant.specs.AttendantTrace.{AttendantFinish, AttendantPart, Reply, ToCome, Work, acts_of, machine_end, sent_by}
use Rattle.af_attendant.specs.AttendantTrace.{working, written_by}

-- the ends of a machine within its calls: it sends requests, hears events, runs commands, and writes a line for each call
abbrev pub is_of_taking : AnswerEnd → Bool
is_of_taking end.SinkFault = true
is_of_taking how = is_of_calls how

-- what is observable of a machine: what its link or its dial tells, the acts of its commands, and what its sink holds; and what
-- it has heard of the line
pub record Seen (A : Type 0) : Type 0 where
  pub far : A
  pub acts : Option (List Told)
  pub held : Option (List ℕ)

abbrev pub seen_as : {A : Type 0} → A → (acts : Option (List Told)) → (held : Option (List ℕ)) → Seen A
seen_as far acts held = record { far = far; acts = acts; held = held }

-- this work was added to what a link was sent, the acts of the commands, and what the sink holds
pub record Added (before : Seen (Option (List ℕ))) (work : Work) (after : Seen (Option (List ℕ))) : Type 0 where
  pub link : Appended before.far (sent_by work) after.far
  pub commands : Appended before.acts (acts_of work) after.acts
  pub sink : Appended before.held (written_by work) after.held

-- a machine as it is seen, and what it has heard of the line
pub record Sight : Type 0 where
  pub link : LinkSight
  pub acts : Option (List Told)
  pub held : Option (List ℕ)
  pub line : LineState

abbrev pub sight : {L : Type 0} → (left sent : L → Option (List ℕ)) → ConnState L → (acts : Option (List Told)) →
    (held : Option (List ℕ)) → LineState → Sight
sight left sent conn acts held line = record { link = link_sight left sent conn; acts = acts; held = held; line = line }

-- what a sight shows outside
abbrev pub shown : Sight → Seen (Option (List ℕ))
shown s = seen_as s.link.sent s.acts s.held

-- Machines that hear their callers, as programs. What will be answered of the commands is not known before, so where a machine
-- stands goes by it.
abbrev pub attending : ProgramKind ToCome Work AttendantFinish AnswerEnd (Sight × List Reply)
attending = record {
  deeds = working;
  Reports = λ how finish. how ≡ machine_end finish;
  is_outer = is_from_outside;
  Stands = λ p a. (input : List ℕ) × (p.0.link.left ≡ Some input)
      × (a ≡ record { wire = p.0.link.client input; replies = p.1; line = p.0.line });
  Shows = λ p did q. Added (shown p.0) did (shown q.0);
}

-- A part of a machine went so: its commands answered in some way before what they answer later.
pub record Went {X : Type 0} (part : AttendantPart X) (result : Result X AnswerEnd) (old new : Sight) : Type 0 where
  pub replies : (later : List Reply) → List Reply
  pub goes : (later : List Reply) → Goes attending part result (old, replies later) (new, later)

-- A part went so over a connection, and wrote nothing.
abbrev pub GoesBy : {L X : Type 0} → (left sent : L → Option (List ℕ)) → (old new : ConnState L) →
    (acts acts' : Option (List Told)) → (line line' : LineState) → AttendantPart X → Result X AnswerEnd → Type 0
GoesBy left sent old new acts acts' line line' part result = (held : Option (List ℕ)) →
    Went part result (sight left sent old acts held line) (sight left sent new acts' held line')

-- nothing was sent or read on a connection: at most events of its ring were taken
abbrev pub KeepsLink : {L : Type 0} → ConnState L → ConnState L → Type 0
KeepsLink old new = new ≡ record old { ring = new.ring }

-- A part that also writes went so.
abbrev pub GoesWriting : {L X : Type 0} → (left sent : L → Option (List ℕ)) → (old new : ConnState L) →
    (acts acts' : Option (List Told)) → (line line' : LineState) → (held held' : Option (List ℕ)) → AttendantPart X →
    Result X AnswerEnd → Type 0
GoesWriting left sent old new acts acts' line line' held held' part result =
    Went part result (sight left sent old acts held line) (sight left sent new acts' held' line')

-- A part that only writes went so, whatever else there is.
abbrev pub WritesBy : {X : Type 0} → (held held' : Option (List ℕ)) → LineState → AttendantPart X → Result X AnswerEnd → Type 0
WritesBy held held' line part result = (link : LinkSight) (acts : Option (List Told)) →
    Went part result (record { link = link; acts = acts; held = held; line = line })
    (record { link = link; acts = acts; held = held'; line = line })

-- All calls were attended so, from a line of which nothing was heard.
abbrev pub AttendsBy : {L X : Type 0} → (left sent : L → Option (List ℕ)) → (old new : ConnState L) →
    (acts acts' : Option (List Told)) → (held held' : Option (List ℕ)) → AttendantPart X → Result X AnswerEnd → Type 0
AttendsBy left sent old new acts acts' held held' part result = (line : LineState)
    × GoesWriting left sent old new acts acts' fresh_line line held held' part result
