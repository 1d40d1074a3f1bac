-- Parts of a tool: what each sends and writes by how far its client has come, and how far code came in one.
use Rattle.std.specs.Prelude.{◌≡◌, ℕ, List, [], ◌++◌, Result, Ok, Err}
use Rattle.std.specs.declared.option.Option.{Option}
use Rattle.std.specs.declared.option.Option.TheVariants.{Some}
use Rattle.af_toolkit.specs.Parts.{Deeds, Goes, Outcome, Part, ProgramKind, called, goes_on}
use Rattle.af_time.specs.declared.DevTime.{DevTime}
use Rattle.af_io.specs.Observed.{Appended}
use Rattle.af_request.specs.Asked.{Asked, get_time}
use Rattle.af_request.specs.Answer.{Answer}
use Rattle.af_request.specs.Requests.{request_bytes}
use Rattle.af_lib.specs.declared.fault.ConnFault.{ConnFault}
use Rattle.af_lib.specs.Calls.{ConnState, as_done, as_time}
use Rattle.af_toolkit.specs.declared.end.ToolEnd.{ToolEnd}
use Rattle.af_toolkit.specs.Trace.{Trace, Finish, ClientState, after_reply, answer_on}
use Rattle.af_toolkit.specs.Trace.{ends, refused, sends_first, tool_end, writes_first}
use Rattle.af_toolkit.specs.Ends.{client_of, is_outer}

-- the bytes that a tool sends on its link, and those that it writes
pub record ToolDeeds : Type 0 where
  pub sends : List ℕ
  pub output : List ℕ

abbrev pub deeds : (sends output : List ℕ) → ToolDeeds
deeds sends output = record { sends = sends; output = output }

abbrev pub doing : Deeds ToolDeeds
doing = record { nothing = deeds [] []; joined = λ d e. deeds (d.sends ++ e.sends) (d.output ++ e.output) }

-- A part of a tool goes by how far its client has come. It ends with a value, or a fault that ends the tool.
abbrev pub ToolPart : Type 0 → Type 0
ToolPart X = Part ClientState ToolDeeds ConnFault X

-- a request is sent, and its answer is the value
unfoldable pub asks : {X : Type 0} → Asked → (Answer → Option X) → ToolPart X
asks asked value_of w = called (deeds (request_bytes w.order asked) []) (answer_on asked value_of w) (after_reply w)

-- some bytes are written
abbrev pub writes : List ℕ → ToolPart (Unit {0})
writes bytes w = called (deeds [] bytes) (Ok tt) w

-- a context is made, and the time of its device is asked for
abbrev pub begins : Asked → ℕ → ToolPart DevTime
begins context device = goes_on doing (asks context as_done) (λ _. asks (get_time device) as_time)

-- the tool that begins with a part, by the outcome of that, what follows its value, and the causes for which it may end
abbrev pub trace_ending : {X F : Type 0} → (F → Finish) → Result (X × ClientState) F → (X → Trace) → Trace
trace_ending finish_of (Ok y) next = next y.0
trace_ending finish_of (Err cause) next = ends (finish_of cause)

abbrev pub trace_of : {X F : Type 0} → (F → Finish) → Outcome ToolDeeds (X × ClientState) F → (X → Trace) → Trace
trace_of finish_of o next = sends_first o.did.sends (writes_first o.did.output (trace_ending finish_of o.end next))

-- a connection as its link tells: the bytes that this has left to give, the client by them, and the bytes that it was sent
pub record LinkSight : Type 0 where
  pub left : Option (List ℕ)
  pub client : List ℕ → ClientState
  pub sent : Option (List ℕ)

abbrev pub link_sight : {L : Type 0} → (left sent : L → Option (List ℕ)) → ConnState L → LinkSight
link_sight left sent conn = record { left = left conn.link; client = client_of conn; sent = sent conn.link }

-- the client of a link that is observable has come so far
abbrev pub IsClientOf : LinkSight → ClientState → Type 0
IsClientOf link client = (input : List ℕ) × (link.left ≡ Some input) × (client ≡ link.client input)

-- what is observable of a tool: its connection, and what its sink holds
pub record ToolSight : Type 0 where
  pub link : LinkSight
  pub held : Option (List ℕ)

abbrev pub tool_sight : {L : Type 0} → (left sent : L → Option (List ℕ)) → ConnState L → (held : Option (List ℕ)) → ToolSight
tool_sight left sent conn held = record { link = link_sight left sent conn; held = held }

-- Tools, as programs, which may end for such causes: the link shows what was sent on it, and the sink holds what was written.
abbrev pub tooling : {F : Type 0} → (F → Finish) → ProgramKind ClientState ToolDeeds F ToolEnd ToolSight
tooling finish_of = record {
  deeds = doing;
  Reports = λ how cause. how ≡ tool_end (finish_of cause);
  is_outer = is_outer;
  Stands = λ sight client. IsClientOf sight.link client;
  Shows = λ sight did sight'.
      Appended sight.link.sent did.sends sight'.link.sent × Appended sight.held did.output sight'.held;
}

-- a part went so over a connection, and wrote nothing
abbrev pub GoesOver : {L X : Type 0} → (left sent : L → Option (List ℕ)) → (old new : ConnState L) → ToolPart X →
    Result X ToolEnd → Type 0
GoesOver left sent old new part result = (held : Option (List ℕ)) →
    Goes (tooling refused) part result (tool_sight left sent old held) (tool_sight left sent new held)

-- the same of a part that also writes, to a sink
abbrev pub GoesWriting : {L K X : Type 0} → (left sent : L → Option (List ℕ)) → (held : K → Option (List ℕ)) →
    (conn conn' : ConnState L) → (sink sink' : K) → ToolPart X → Result X ToolEnd → Type 0
GoesWriting left sent held conn conn' sink sink' part result =
    Goes (tooling refused) part result (tool_sight left sent conn (held sink)) (tool_sight left sent conn' (held sink'))
