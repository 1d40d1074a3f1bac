-- What the tool events has done at its end: for each event that came and was asked for it has written a line, and nothing else.
use Rattle.std.specs.Prelude.{◌≡◌, ◌⊎◌, ◌+◌, if◌then◌else◌, ⊤, ℕ, Bool, true, false, List, [], ◌∷◌, ◌++◌, Ok, Option, Some, None}
use Rattle.af_wire.specs.declared.event.Event.{Event}
use Rattle.af_request.specs.declared.reply.DeviceInfo.{DeviceInfo}
use Rattle.af_lib.specs.Calls.{ConnState}
use Rattle.af_toolkit.specs.declared.end.ToolEnd.{ToolEnd}
use Rattle.af_toolkit.specs.declared.end.ToolEnd.TheVariants as tool
use Rattle.af_toolkit.specs.Trace.{ClientState}
use Rattle.af_toolkit.specs.Ends.{ToolRan, client_of, is_of_link_or_sink, is_outer}
use Rattle.af_events.specs.declared.end.EventsEnd.{EventsEnd}
use Rattle.af_events.specs.declared.end.EventsEnd.TheVariants as end
use Rattle.af_events.specs.declared.job.EventsJob.{EventsJob}
use Rattle.af_events.specs.Lines.{is_asked, lines_for}
use Rattle.af_events.specs.Spans.{span_of}
use Rattle.af_events.specs.Timed.{HeardFor, IsTimeOver, Step, events_among}
use Rattle.af_events.specs.Trace.{after_event, count_of, events_trace, missing, next_event, selects_all}

-- a client is handed these events, one after another
abbrev pub AreHanded : ClientState → List Event → Type 0
AreHanded w [] = ⊤
AreHanded w (e ∷ events) = (next_event w ≡ Ok e) × AreHanded (after_event w) events

-- how many of these events are asked for
abbrev pub number_asked : EventsJob → List Event → ℕ
number_asked job [] = 0
number_asked job (e ∷ events) = (if is_asked job e then 1 else 0) + number_asked job events

-- The server was asked for the events that are wanted, and none was lost until its last reply. Then the client was handed these
-- events.
pub record Heard (job : EventsJob) (devices : List DeviceInfo) (w : ClientState) (events : List Event) : Type 0 where
  pub from : ClientState
  pub selected : (selects_all job.devices job.kinds devices w).end ≡ Ok (tt, from)
  pub kept : from.ring.lost ≡ 0
  pub handed : AreHanded from events

-- These events came: by the steps of the client if the job is for so many milliseconds.
abbrev pub CameBy : Option ℕ → EventsJob → List DeviceInfo → ClientState → List Event → Type 0
CameBy None job devices w events = Heard job devices w events
CameBy (Some milliseconds) job devices w events = (steps : List Step)
    × HeardFor (span_of milliseconds job.devices devices) job devices w steps × (events ≡ events_among steps)

-- The job is done with these events: they are as many as it has, or its time is over.
abbrev pub IsDoneBy : Option ℕ → EventsJob → List DeviceInfo → ClientState → List Event → Type 0
IsDoneBy None job devices w events = number_asked job events ≡ count_of job
IsDoneBy (Some milliseconds) job devices w events = (number_asked job events ≡ count_of job)
    ⊎ ((steps : List Step) × (heard : HeardFor (span_of milliseconds job.devices devices) job devices w steps)
    × (events ≡ events_among steps) × IsTimeOver (span_of milliseconds job.devices devices) heard.start.0 heard.last)

-- Nothing was written; or what was written are the lines of the events that came and are asked for, in order, or the first of
-- these if something from outside ended the tool.
abbrev pub WroteLines : EventsJob → List DeviceInfo → ClientState → ToolEnd → (output : List ℕ) → Type 0
WroteLines job devices w how output = (output ≡ [])
    ⊎ ((events : List Event) × CameBy job.lasting job devices w events × (unwritten : List ℕ)
    × (lines_for job events ≡ output ++ unwritten) × (is_outer how ≡ false → unwritten ≡ []))

-- As many events came and were told as the job has, or all that came in its time: each has its line, and there is no other.
pub record ToldAll (job : EventsJob) (devices : List DeviceInfo) (w : ClientState) (output : List ℕ) : Type 0 where
  pub events : List Event
  pub heard : CameBy job.lasting job devices w events
  pub number : IsDoneBy job.lasting job devices w events
  pub wrote : output ≡ lines_for job events

-- The tool ran, by what its link gives. It did as its trace, wrote the lines of events that came, and is done exactly if it told
-- as many as the job has or its time is over, unless something from outside ended it.
pub record EventsRan (job : EventsJob) (devices : List DeviceInfo) (w : ClientState) (how : ToolEnd)
    (sent sent' held held' : Option (List ℕ)) : Type 0 where
  pub ran : ToolRan ⊤ (events_trace job devices w) how sent sent' held held'
  pub lines : WroteLines job devices w how ran.followed.output
  pub told : how ≡ tool.Done → ToldAll job devices w ran.followed.output

-- the ends of the tool on a connection whose devices have what is wanted
abbrev pub is_of_telling : ToolEnd → Bool
is_of_telling tool.Done = true
is_of_telling how = is_of_link_or_sink how

-- the ends of the tool on a connection
abbrev pub is_of_events : EventsEnd → Bool
is_of_events (end.NoLine device) = true
is_of_events (end.Tool (tool.NoDevice devices)) = true
is_of_events (end.Tool how) = is_of_telling how

-- What is wanted is missing, and the tool ended so; or it is there, and the tool ran.
abbrev pub RanBy : Option EventsEnd → EventsJob → List DeviceInfo → ClientState → EventsEnd →
    (sent sent' held held' : Option (List ℕ)) → Type 0
RanBy (Some missing) job devices w how sent sent' held held' = (how ≡ missing) × (sent' ≡ sent) × (held' ≡ held)
RanBy None job devices w how sent sent' held held' =
    (ended : ToolEnd) × (how ≡ end.Tool ended) × EventsRan job devices w ended sent sent' held held'

-- the same over a connection whose link is observable
abbrev pub RunsEvents : {L K : Type 0} → (left sent : L → Option (List ℕ)) → (held : K → Option (List ℕ)) →
    EventsJob → EventsEnd → (conn conn' : ConnState L) → (sink sink' : K) → Type 0
RunsEvents left sent held job how conn conn' sink sink' = (input : List ℕ) → left conn.link ≡ Some input →
    RanBy (missing job.devices conn.devices) job conn.devices (client_of conn input) how
    (sent conn.link) (sent conn'.link) (held sink) (held sink')
