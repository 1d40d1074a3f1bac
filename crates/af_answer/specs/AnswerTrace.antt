-- The trace of an answering machine, part by part: the events that it gets; what it sends, the acts of its children and what it
-- writes, all in one order; and why it ends. It goes by what the link gives and by how the children run.
use Rattle.std.specs.Prelude.{ℕ, zero, suc, ◌==◌, if◌then◌else◌, Bool, true, false, List, [], ◌∷◌, ◌++◌, map, codes, decimal, drop}
use Rattle.std.specs.Prelude.{get_or, length, option_map, slice_get, Result, Ok, Err, Option, None, Some, is_some, unwrap_or}
use Rattle.std.specs.List.{filter_map}
use Rattle.std.specs.Option.{option_map_or}
use Rattle.af_wire.specs.declared.event.Event.{Event}
use Rattle.af_request.specs.declared.reply.DeviceInfo.{DeviceInfo}
use Rattle.af_request.specs.Asked.{Asked, hook_switch, select_events}
use Rattle.af_request.specs.Requests.{request_bytes}
use Rattle.af_toolkit.specs.Parts.{Deeds, Outcome, Part, called, end_among, goes_on, has_value, stops}
use Rattle.af_process.specs.Acts.{Told}
use Rattle.af_lib.specs.declared.fault.ConnFault.{ConnFault}
use Rattle.af_lib.specs.declared.fault.ConnFault.TheVariants as fault
use Rattle.af_lib.specs.Calls.{as_done, event_of}
use Rattle.af_lib.specs.Incoming.{after_message}
use Rattle.af_toolkit.specs.Trace.{ClientState, after_reply, answer_on}
use Rattle.af_answer.specs.declared.child.ChildEnd.{ChildEnd}
use Rattle.af_answer.specs.declared.child.ChildEnd.TheVariants as ended
use Rattle.af_answer.specs.declared.end.AnswerEnd.{AnswerEnd}
use Rattle.af_answer.specs.declared.end.AnswerEnd.TheVariants as end
use Rattle.af_answer.specs.declared.job.AnswerJob.{AnswerJob}
use Rattle.af_answer.specs.declared.tally.Tally.{Tally}
use Rattle.af_answer.specs.Acts.{no_calls, rings_after, tally_after}
use Rattle.af_answer.specs.Children.{ChildRun, is_starved, run_end, told_of_run, shell_words, start_failed}

-- what is to come from outside: the bytes of the link, from where a client stands in them, and how the next children run
pub record ToCome : Type 0 where
  pub wire : ClientState
  pub runs : List ChildRun

-- why a machine ends
pub data AnswerFinish : Type 0 where
  all_answered : AnswerFinish
  device_missing : (devices : ℕ) → AnswerFinish
  line_missing : (device : ℕ) → AnswerFinish
  -- the fault came in place of the reply to an OffHook, or to an OnHook
  off_hook_fault : (fault : ConnFault) → AnswerFinish
  on_hook_fault : (fault : ConnFault) → AnswerFinish
  -- it came in place of the reply to another request, or of an event
  met_fault : (fault : ConnFault) → AnswerFinish
  -- the most events were read and no call was taken
  rang_too_little : AnswerFinish
  -- memory ran out for a child
  child_starved : AnswerFinish

-- one thing that a machine does outside: it sends a byte, does an act with a child, or writes a byte
pub data Effect : Type 0 where
  sends_byte : ℕ → Effect
  does_act : Told → Effect
  writes_byte : ℕ → Effect

-- what a machine does outside, in order
abbrev pub Work : Type 0
Work = List Effect

-- it sends these bytes, does these acts, or writes these bytes
abbrev pub sending : List ℕ → Work
sending bytes = map sends_byte bytes

abbrev pub acting : List Told → Work
acting acts = map does_act acts

abbrev pub writing : List ℕ → Work
writing bytes = map writes_byte bytes

-- which byte is sent, which act is done, or which byte is written by one of these things
abbrev pub byte_sent : Effect → Option ℕ
byte_sent (sends_byte b) = Some b
byte_sent (does_act act) = None
byte_sent (writes_byte b) = None

abbrev pub act_done : Effect → Option Told
act_done (sends_byte b) = None
act_done (does_act act) = Some act
act_done (writes_byte b) = None

abbrev pub byte_written : Effect → Option ℕ
byte_written (sends_byte b) = None
byte_written (does_act act) = None
byte_written (writes_byte b) = Some b

-- all bytes that are sent by some work, all acts that are done, and all bytes that are written, each in order
abbrev pub sent_by : Work → List ℕ
sent_by work = filter_map byte_sent work

abbrev pub acts_of : Work → List Told
acts_of work = filter_map act_done work

abbrev pub written_by : Work → List ℕ
written_by work = filter_map byte_written work

-- no work, or some and then other work
abbrev pub working : Deeds Work
working = record { nothing = []; joined = λ w v. w ++ v }

-- what a machine has done: the events that it got, and its work
pub record MachineDeeds : Type 0 where
  pub heard : List Event
  pub work : Work

abbrev pub deeds_of_work : Work → MachineDeeds
deeds_of_work w = record { heard = []; work = w }

-- a machine does nothing, or some deeds and then others
abbrev pub doing : Deeds MachineDeeds
doing = record {
  nothing = deeds_of_work working.nothing;
  joined = λ d e. record { heard = d.heard ++ e.heard; work = working.joined d.work e.work };
}

-- A part of a machine goes by what is to come. It ends with a value, or with the end of the machine.
abbrev pub MachinePart : Type 0 → Type 0
MachinePart X = Part ToCome MachineDeeds AnswerFinish X

abbrev pub MachineOutcome : Type 0 → Type 0
MachineOutcome X = Outcome MachineDeeds (X × ToCome) AnswerFinish

-- the trace of a machine: what it does, and how it ends
abbrev pub MachineTrace : Type 0
MachineTrace = MachineOutcome (Unit {0})

-- why a machine ends if its request is answered with a fault
abbrev pub refusal : Asked → ConnFault → AnswerFinish
refusal (hook_switch device zero) fault = on_hook_fault fault
refusal (hook_switch device (suc off)) fault = off_hook_fault fault
refusal _ fault = met_fault fault

-- a message is sent, and its answer is the value; a fault ends the machine, for this reason
abbrev pub exchanges : {X : Type 0} → (ConnFault → AnswerFinish) → (bytes : ClientState → List ℕ) →
    (answer : ClientState → Result X ConnFault) → (after : ClientState → ClientState) → MachinePart X
exchanges reason bytes answer after a = called (deeds_of_work (sending (bytes a.wire))) (end_among reason (answer a.wire))
    (record { wire = after a.wire; runs = a.runs })

-- a request is sent, and its answer is the value
unfoldable pub requests : Asked → MachinePart (Unit {0})
requests asked = exchanges (refusal asked) (λ w. request_bytes w.order asked) (answer_on asked as_done) after_reply

-- the event that a client gets next: the oldest of its ring, or else the next message
abbrev pub next_event : ClientState → Result Event ConnFault
next_event w = unwrap_or (option_map (λ (e : Event). Ok e) (slice_get w.ring.events 0)) (event_of w.order w.input)

-- a client after that event
abbrev pub after_event : ClientState → ClientState
after_event w = record w {
  ring = record w.ring { events = drop 1 w.ring.events };
  input = if is_some (slice_get w.ring.events 0) then w.input else after_message w.order w.input;
}

-- an event is heard
abbrev pub hears : Event → MachinePart Event
hears e a = called (record { heard = e ∷ []; work = working.nothing }) (Ok e) a

-- an event is waited for, for which nothing is sent, and heard
unfoldable pub awaits_event : MachinePart Event
awaits_event = goes_on doing (exchanges met_fault (λ w. []) next_event after_event) hears

-- how the next child runs: if nothing is stated of it, it does not start
abbrev pub first_run : List ChildRun → ChildRun
first_run runs = get_or runs 0 start_failed

-- a text is run as a child, and how that ended is the value
unfoldable pub runs_child : List ℕ → MachinePart ChildEnd
runs_child text a = called (deeds_of_work (acting (told_of_run (shell_words text) (first_run a.runs))))
    (Ok (run_end (first_run a.runs))) (record { wire = a.wire; runs = drop 1 a.runs })

-- the message is recorded after a good greeting, and else the call ends as the greeting did
abbrev pub leaves_message : AnswerJob → ChildEnd → MachinePart ChildEnd
leaves_message job ended.Good = runs_child job.message.bytes
leaves_message job ended.Bad = has_value doing ended.Bad
leaves_message job ended.NoMemory = has_value doing ended.NoMemory

-- a call is taken, and then the hook is put on
unfoldable pub takes_call : AnswerJob → MachinePart ChildEnd
takes_call job =
    goes_on doing (requests (hook_switch job.device 1)) (λ _.
    goes_on doing (runs_child job.greeting.bytes) (λ greeting.
    goes_on doing (leaves_message job greeting) (λ how.
    goes_on doing (requests (hook_switch job.device 0)) (λ _.
    has_value doing how))))

-- the most events that are read while waiting for one call
abbrev pub most_for_a_call : ℕ
most_for_a_call = 1000000

-- It rings until a call is to be taken, or n events were read without that.
unfoldable pub awaits_call : ℕ → AnswerJob → (rings : ℕ) → MachinePart (Unit {0})
awaits_call zero job rings = stops doing rang_too_little
awaits_call (suc n) job rings = goes_on doing awaits_event (λ e.
    if rings_after job rings e == job.rings then has_value doing tt else awaits_call n job (rings_after job rings e))

-- n calls are awaited and taken, after those that are counted, or fewer if memory ran out in one
unfoldable pub attends : ℕ → AnswerJob → Tally → MachinePart Tally
attends zero job t = has_value doing t
attends (suc n) job t =
    goes_on doing (awaits_call most_for_a_call job 0) (λ _.
    goes_on doing (takes_call job) (λ how.
    if is_starved how then stops doing child_starved else attends n job (tally_after how t)))

-- rings and hooks are asked for, and then all calls are taken
unfoldable pub attends_all : AnswerJob → MachinePart Tally
attends_all job = goes_on doing (requests (select_events job.device 3)) (λ _. attends job.calls job no_calls)

-- the line that a machine writes at its end
unfoldable pub tally_text : Tally → List ℕ
tally_text t =
    codes "answered " ++ decimal t.answered ++ codes " recorded " ++ decimal t.recorded ++ codes " failed " ++ decimal t.failed
    ++ codes "\n"

-- the line is written
abbrev pub writes_tally : Tally → MachinePart (Unit {0})
writes_tally t a = called (deeds_of_work (writing (tally_text t))) (Ok tt) a

-- whether the device of a job has a line, if it exists
abbrev pub line_at : AnswerJob → List DeviceInfo → Option Bool
line_at job devices = option_map (λ (device : DeviceInfo). device.line) (slice_get devices job.device)

-- what is missing for a machine: the line of its device, or the device, of so many
abbrev pub missing : AnswerJob → Option Bool → (devices : ℕ) → Option AnswerFinish
missing job (Some true) devices = None
missing job (Some false) devices = Some (line_missing job.device)
missing job None devices = Some (device_missing devices)

-- a machine on a link that is set up, by the devices of the server: if nothing is missing, it takes its calls and writes their
-- numbers
abbrev pub answers : AnswerJob → List DeviceInfo → MachinePart (Unit {0})
answers job devices = option_map_or (λ finish. stops doing finish) (missing job (line_at job devices) (length devices))
    (goes_on doing (attends_all job) writes_tally)

-- why a machine ends: one that came to the end of its parts has answered all calls
abbrev pub finish_of : MachineTrace → AnswerFinish
finish_of trace = elim (trace.end) [ Ok y ↦ all_answered | Err finish ↦ finish ]

-- how a machine ends at a fault of its connection
abbrev pub connection_end : ConnFault → AnswerEnd
connection_end fault.LinkFault = end.LinkFault
connection_end fault.LinkEnded = end.LinkEnded
connection_end (fault.Spent first) = end.LinkFault
connection_end (fault.ServerError code value) = end.Refused code value
connection_end (fault.BadReply header first) = end.BadReply header first
connection_end fault.OutOfMemory = end.OutOfMemory
connection_end fault.EventFlood = end.EventFlood

-- how a machine ends
abbrev pub machine_end : AnswerFinish → AnswerEnd
machine_end all_answered = end.Done
machine_end (device_missing devices) = end.NoDevice devices
machine_end (line_missing device) = end.NoLine device
machine_end (off_hook_fault fault) = connection_end fault
machine_end (on_hook_fault fault) = connection_end fault
machine_end (met_fault fault) = connection_end fault
machine_end rang_too_little = end.EventFlood
machine_end child_starved = end.OutOfMemory
