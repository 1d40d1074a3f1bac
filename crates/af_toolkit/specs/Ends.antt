-- How far a tool came in its trace, and why it ended.
use Rattle.std.specs.Prelude.{◌≡◌, ◌≢◌, ◌≤◌, ◌⊎◌, ℕ, Bool, true, false, List, [], ◌++◌, Result, Ok, Err, IsOk, IsSome}
use Rattle.std.specs.declared.option.Option.{Option}
use Rattle.std.specs.declared.option.Option.TheVariants.{None}
use Rattle.af_io.specs.Observed.{Appended, FaultCounted}
use Rattle.af_io.specs.Flow.{AppendedPrefix}
use Rattle.af_lib.specs.declared.fault.ConnFault.{ConnFault}
use Rattle.af_lib.specs.Calls.{ConnState}
use Rattle.af_toolkit.specs.declared.end.ToolEnd.{ToolEnd}
use Rattle.af_toolkit.specs.declared.end.ToolEnd.TheVariants as end
use Rattle.af_toolkit.specs.Trace.{Trace, ClientState, Finish, done, tool_end, ends, fault_end, refused, sound_lost, writes_first}

-- the ends that come from outside: no bytes decide whether they come
abbrev pub is_outer : ToolEnd → Bool
is_outer end.DialFault = true
is_outer end.LinkFault = true
is_outer end.ReadFault = true
is_outer end.SinkFault = true
is_outer end.OutOfMemory = true
is_outer _ = false

-- the ends of a tool that did all that it was asked: a strict one says if sound was lost
abbrev pub has_done_all : ToolEnd → Bool
has_done_all end.Done = true
has_done_all end.SoundLost = true
has_done_all _ = false

-- those of a tool that is strict, or not
abbrev pub is_of_all : (strict : Bool) → ToolEnd → Bool
is_of_all strict end.Done = true
is_of_all strict end.SoundLost = strict
is_of_all strict _ = false

-- a tool ended for want of a value, as is stated of it, or for something from outside
abbrev pub EndsFor : {X : Type 0} → Result X Finish → ToolEnd → Type 0
EndsFor wanted how = (is_outer how ≡ true) ⊎ ((finish : Finish) × (how ≡ tool_end finish) × (wanted ≡ Err finish))

-- A tool ended, and sent and wrote this: all that its trace has, and it ends as the trace does; or prefixes of that, if something
-- from outside ended it.
pub record MatchesTrace (trace : Trace) (how : ToolEnd) (sends output : List ℕ) : Type 0 where
  pub unsent : List ℕ
  pub unwritten : List ℕ
  pub sent : trace.sends ≡ sends ++ unsent
  pub wrote : trace.output ≡ output ++ unwritten
  pub whole : is_outer how ≡ false → (how ≡ tool_end trace.finish) × (unsent ≡ []) × (unwritten ≡ [])

-- the same by what a link was sent and what a sink holds, before and after
pub record ObservedTrace (trace : Trace) (how : ToolEnd) (sent sent' held held' : Option (List ℕ)) : Type 0 where
  pub sends : List ℕ
  pub output : List ℕ
  pub ended : MatchesTrace trace how sends output
  pub link : Appended sent sends sent'
  pub sink : Appended held output held'

-- a tool wrote a text before it ends so, as the last thing that it does
abbrev pub ReportsBefore : {K : Type 0} → (held : K → Option (List ℕ)) → Finish → List ℕ → ToolEnd → (sink sink' : K) → Type 0
ReportsBefore held finish text how sink sink' =
    (sent : Option (List ℕ)) → ObservedTrace (writes_first text (ends finish)) how sent sent (held sink) (held sink')

-- the same of a tool that is done
abbrev pub Reports : {K : Type 0} → (held : K → Option (List ℕ)) → List ℕ → ToolEnd → (sink sink' : K) → Type 0
Reports held text how sink sink' = ReportsBefore held done text how sink sink'

-- a connection whose link gives these bytes
abbrev pub client_of : {L : Type 0} → ConnState L → List ℕ → ClientState
client_of conn input = record { order = conn.order; sequence = conn.sequence; ring = conn.ring; input = input }

-- the ends for a reply: it is cut off, an error, not a reply, or missing
abbrev pub is_of_reply : ToolEnd → Bool
is_of_reply end.LinkEnded = true
is_of_reply (end.Refused code value) = true
is_of_reply (end.BadReply header first) = true
is_of_reply end.EventFlood = true
is_of_reply _ = false

-- the ends of a part that only sends requests and takes their replies
abbrev pub is_of_link : ToolEnd → Bool
is_of_link end.LinkFault = true
is_of_link how = is_of_reply how

-- the ends of a part that also writes
abbrev pub is_of_link_or_sink : ToolEnd → Bool
is_of_link_or_sink end.SinkFault = true
is_of_link_or_sink how = is_of_link how

-- the ends of writing
abbrev pub is_of_report : ToolEnd → Bool
is_of_report end.Done = true
is_of_report end.SinkFault = true
is_of_report _ = false

-- If a request is answered with a fault, the tool ends with that, unless something from outside ended it. It ends so in no other
-- case.
pub record EndsByReply (trace : Trace) (how : ToolEnd) : Type 0 where
  pub only : (fault : ConnFault) → is_of_reply (fault_end fault) ≡ true → how ≡ fault_end fault → trace.finish ≡ refused fault
  pub always : (fault : ConnFault) → trace.finish ≡ refused fault → (how ≡ fault_end fault) ⊎ (is_outer how ≡ true)

-- A tool ends for lost sound exactly where its trace does, unless something from outside has ended it.
pub record EndsIfLost (trace : Trace) (how : ToolEnd) : Type 0 where
  pub only : how ≡ end.SoundLost → trace.finish ≡ sound_lost
  pub always : trace.finish ≡ sound_lost → (how ≡ end.SoundLost) ⊎ (is_outer how ≡ true)

-- no sound is lost, or that is no end of the tool, which is not strict
abbrev pub IsKept : (strict : Bool) → Trace → Type 0
IsKept strict trace = strict ≡ true → trace.finish ≢ sound_lost

-- each request gets its reply
abbrev pub IsAnswered : Trace → Type 0
IsAnswered trace = (fault : ConnFault) → trace.finish ≢ refused fault

-- A tool followed its trace, and ends for a reply or for lost sound where that does. If this holds and each request gets its
-- reply, it is done, unless something from outside ended it.
pub record ToolRan (ready : Type 0) (trace : Trace) (how : ToolEnd) (sent sent' held held' : Option (List ℕ)) : Type 0 where
  pub followed : ObservedTrace trace how sent sent' held held'
  pub reply : EndsByReply trace how
  pub lost : EndsIfLost trace how
  pub complete : ready → IsAnswered trace → (how ≡ end.Done) ⊎ (is_outer how ≡ true)

-- some bytes were written to a sink, or the first of them before it failed
abbrev pub Writes : {K : Type 0} → (held : K → Option (List ℕ)) → List ℕ → Result (Unit {0}) ToolEnd → (sink sink' : K) → Type 0
Writes held bytes (Ok _) sink sink' = Appended (held sink) bytes (held sink')
Writes held bytes (Err how) sink sink' = (how ≡ end.SinkFault) × AppendedPrefix (held sink) bytes (held sink')

-- What a part does to its connection, whatever the link tells, in a program that ends so where its link failed.
pub record KeepsConnectionBy {L X E : Type 0} (link_failed : E) (left : L → Option (List ℕ)) (faults : L → ℕ)
    (old new : ConnState L) (result : Result X E) : Type 0 where
  pub devices : new.devices ≡ old.devices
  pub usable : IsOk result → new.cause ≡ None
  pub tells : IsSome (left old.link) → IsSome (left new.link)
  pub count : faults old.link ≤ faults new.link
  pub failed : result ≡ Err link_failed → FaultCounted (faults old.link) (faults new.link)

-- the same of a tool
abbrev pub KeepsConnection : {L X : Type 0} → (left : L → Option (List ℕ)) → (faults : L → ℕ) → (old new : ConnState L) →
    Result X ToolEnd → Type 0
KeepsConnection left faults old new result = KeepsConnectionBy end.LinkFault left faults old new result
