-- The trace of a machine that hears its caller, part by part: what it sends, which events it hears, the acts of its commands and
-- what it writes, all in one order; and why it ends. It goes by what the link gives and what is answered of the commands.
use Rattle.std.specs.Prelude.{ℕ, ℤ, zero, suc, ◌+◌, ◌-◌, ◌^◌, ◌==◌, ◌&&◌, not, if◌then◌else◌, Bool, true, false, List, [], ◌∷◌, ◌++◌, map}
use Rattle.std.specs.Prelude.{drop, get_or, length, option_map, slice_get, Result, Ok, Err, Option, None, Some, is_some}
use Rattle.std.specs.List.{filter_map}
use Rattle.std.specs.Option.{option_map_or}
use Rattle.af_time.specs.declared.DevTime.{DevTime}
use Rattle.af_wire.specs.declared.event.Event.{Event}
use Rattle.af_wire.specs.declared.event.EventKind.{EventKind}
use Rattle.af_wire.specs.declared.event.EventKind.TheVariants as kind
use Rattle.af_process.specs.declared.act.BeganGot.{BeganGot}
use Rattle.af_process.specs.declared.act.BeganGot.TheVariants as got
use Rattle.af_request.specs.declared.reply.DeviceInfo.{DeviceInfo}
use Rattle.af_request.specs.Asked.{Asked, get_time, hook_switch, select_events}
use Rattle.af_request.specs.Answer.{Answer}
use Rattle.af_request.specs.Requests.{request_bytes}
use Rattle.af_toolkit.specs.Parts.{Deeds, Outcome, Part, called, end_among, goes_on, has_value, stops}
use Rattle.af_toolkit.specs.Trace.{ClientState, after_reply, answer_on}
use Rattle.af_lib.specs.declared.fault.ConnFault.{ConnFault}
use Rattle.af_lib.specs.Calls.{as_done, as_time}
use Rattle.af_command.specs.Acts.{Told, begun, ended, finished, looked}
use Rattle.af_answer.specs.declared.end.AnswerEnd.{AnswerEnd}
use Rattle.af_answer.specs.declared.end.AnswerEnd.TheVariants as end
use Rattle.af_answer.specs.AnswerTrace.{after_event, connection_end, next_event}
use Rattle.af_attendant.specs.declared.job.AttendantJob.{AttendantJob}
use Rattle.af_attendant.specs.declared.ran.CallRuns.{CallRuns}
use Rattle.af_attendant.specs.declared.ran.EndCause.{EndCause}
use Rattle.af_attendant.specs.declared.ran.EndCause.TheVariants as cause
use Rattle.af_attendant.specs.declared.ran.Ran.{Ran}
use Rattle.af_attendant.specs.declared.tally.Tally.{Tally}
use Rattle.af_attendant.specs.Line.{LineState, asks_end, call_digits, in_call, is_taken, line_after, over_call}
use Rattle.af_attendant.specs.Ran.{call_line, command_words, is_good, is_starved, no_calls, not_run, not_started, ran_by, starved}
use Rattle.af_attendant.specs.Ran.{tally_after, tally_text}

-- what is answered of commands: what a start gave, whether one still runs, or its status
pub data Reply : Type 0 where
  got_back : BeganGot → Reply
  still_runs : Bool → Reply
  had_status : Option ℤ → Reply

-- what is to come from outside, and what was heard so far: the bytes of the link, from where a client stands in them; what is
-- answered of the commands; and the line
pub record ToCome : Type 0 where
  pub wire : ClientState
  pub replies : List Reply
  pub line : LineState

-- why a machine ends
pub data AttendantFinish : Type 0 where
  all_answered : AttendantFinish
  device_missing : (devices : ℕ) → AttendantFinish
  line_missing : (device : ℕ) → AttendantFinish
  -- the fault came in place of the reply to an OffHook, or to an OnHook, or to a GetTime beside a command
  off_hook_fault : (fault : ConnFault) → AttendantFinish
  on_hook_fault : (fault : ConnFault) → AttendantFinish
  watch_fault : (fault : ConnFault) → AttendantFinish
  -- it came in place of the reply to another request, or of an event
  met_fault : (fault : ConnFault) → AttendantFinish
  -- the most events were read and no call was taken
  rang_too_little : AttendantFinish
  -- memory ran out for a command
  command_starved : AttendantFinish

-- One thing that a machine does: it begins to send the request that moves the hook, off or on; sends a byte; hears an event; does
-- an act with a command; or writes a byte.
pub data Effect : Type 0 where
  moves_hook : (off : Bool) → Effect
  sends_byte : ℕ → Effect
  hears : Event → Effect
  does_act : Told → Effect
  writes_byte : ℕ → Effect

-- what a machine does, in order
abbrev pub Work : Type 0
Work = List Effect

abbrev pub sending : List ℕ → Work
sending bytes = map sends_byte bytes

abbrev pub writing : List ℕ → Work
writing bytes = map writes_byte bytes

-- which byte is sent, which act is done, or which byte is written by one of these things
abbrev pub byte_sent : Effect → Option ℕ
byte_sent (moves_hook off) = None
byte_sent (sends_byte b) = Some b
byte_sent (hears e) = None
byte_sent (does_act act) = None
byte_sent (writes_byte b) = None

abbrev pub act_done : Effect → Option Told
act_done (moves_hook off) = None
act_done (sends_byte b) = None
act_done (hears e) = None
act_done (does_act act) = Some act
act_done (writes_byte b) = None

abbrev pub byte_written : Effect → Option ℕ
byte_written (moves_hook off) = None
byte_written (sends_byte b) = None
byte_written (hears e) = None
byte_written (does_act act) = None
byte_written (writes_byte b) = Some b

-- all bytes that are sent by some work, all acts that are done, and all bytes that are written, each in order
abbrev pub sent_by : Work → List ℕ
sent_by work = filter_map byte_sent work

abbrev pub acts_of : Work → List Told
acts_of work = filter_map act_done work

abbrev pub written_by : Work → List ℕ
written_by work = filter_map byte_written work

-- no work, or some and then other work
abbrev pub working : Deeds Work
working = record { nothing = []; joined = λ w v. w ++ v }

-- A part of a machine goes by what is to come. It ends with a value, or with the end of the machine.
abbrev pub AttendantPart : Type 0 → Type 0
AttendantPart X = Part ToCome Work AttendantFinish X

abbrev pub AttendantOutcome : Type 0 → Type 0
AttendantOutcome X = Outcome Work (X × ToCome) AttendantFinish

-- the trace of a machine: what it does, and how it ends
abbrev pub AttendantTrace : Type 0
AttendantTrace = AttendantOutcome (Unit {0})

-- a message is sent, and its answer is the value; a fault ends the machine, for this reason
abbrev pub exchanges : {X : Type 0} → (ConnFault → AttendantFinish) → (mark : Work) → (bytes : ClientState → List ℕ) →
    (answer : ClientState → Result X ConnFault) → (after : ClientState → ClientState) → AttendantPart X
exchanges reason mark bytes answer after a =
    called (mark ++ sending (bytes a.wire)) (end_among reason (answer a.wire)) (record a { wire = after a.wire })

-- a request is sent, and its answer is the value
unfoldable pub requests : {X : Type 0} → (ConnFault → AttendantFinish) → (mark : Work) → Asked → (Answer → Option X) →
    AttendantPart X
requests reason mark asked value_of =
    exchanges reason mark (λ w. request_bytes w.order asked) (answer_on asked value_of) after_reply

-- all events of the line are asked for
abbrev pub selects : AttendantJob → AttendantPart (Unit {0})
selects job = requests met_fault [] (select_events job.answer.device 15) as_done

-- the hook is taken off, or put on
abbrev pub takes_off : AttendantJob → AttendantPart (Unit {0})
takes_off job = requests off_hook_fault (moves_hook true ∷ []) (hook_switch job.answer.device 1) as_done

abbrev pub puts_on : AttendantJob → AttendantPart (Unit {0})
puts_on job = requests on_hook_fault (moves_hook false ∷ []) (hook_switch job.answer.device 0) as_done

-- The device's time is asked for. What the server had told before the reply has then come.
abbrev pub asks_time : AttendantJob → AttendantPart DevTime
asks_time job = requests watch_fault [] (get_time job.answer.device) as_time

-- an event is heard
abbrev pub hears_event : AttendantJob → Event → AttendantPart Event
hears_event job e a = called (hears e ∷ []) (Ok e) (record a { line = line_after job e a.line })

-- an event is waited for, for which nothing is sent, and heard
unfoldable pub awaits_event : AttendantJob → AttendantPart Event
awaits_event job = goes_on working (exchanges met_fault [] (λ w. []) next_event after_event) (hears_event job)

-- the oldest of the events that came is taken
abbrev pub takes_oldest : AttendantPart (Unit {0})
takes_oldest a = called [] (Ok tt)
    (record a { wire = record a.wire { ring = record a.wire.ring { events = drop 1 a.wire.ring.events } } })

-- the first answer of a command; without one it has failed
abbrev pub first_reply : List Reply → Reply
first_reply replies = get_or replies 0 (had_status None)

abbrev pub got_of : Reply → BeganGot
got_of (got_back got) = got
got_of (still_runs runs) = got.Failed
got_of (had_status status) = got.Failed

abbrev pub runs_of : Reply → Bool
runs_of (got_back got) = false
runs_of (still_runs runs) = runs
runs_of (had_status status) = false

abbrev pub status_of : Reply → Option ℤ
status_of (got_back got) = None
status_of (still_runs runs) = None
status_of (had_status status) = status

-- a command is asked for something: this act is done, and the answer is the value
abbrev pub asks_command : {X : Type 0} → (value : Reply → X) → (act : X → Told) → AttendantPart X
asks_command value act a = called (does_act (act (value (first_reply a.replies))) ∷ []) (Ok (value (first_reply a.replies)))
    (record a { replies = drop 1 a.replies })

-- a command is started; it is looked whether it still runs; it is waited for
unfoldable pub starts : (words : List (List ℕ)) → AttendantPart BeganGot
starts words = asks_command got_of (begun words)

unfoldable pub looks : AttendantPart Bool
looks = asks_command runs_of looked

unfoldable pub waits : AttendantPart (Option ℤ)
waits = asks_command status_of finished

-- its end is asked for
abbrev pub ends_if : Bool → AttendantPart (Unit {0})
ends_if true a = called (does_act ended ∷ []) (Ok tt) a
ends_if false a = has_value working tt a

-- why an event has a command ended
abbrev pub cause_by : EventKind → EndCause
cause_by kind.Digit = cause.Digit
cause_by kind.Ring = cause.HangUp
cause_by kind.Current = cause.HangUp
cause_by kind.Hook = cause.HangUp

-- an event ends the command: one runs, none ended it before, and the event asks for that
abbrev pub ends_now : AttendantJob → (runs : Bool) → (asked : Option EndCause) → Event → Bool
ends_now job runs asked e = runs && not (is_some asked) && asks_end job e

abbrev pub asked_after : AttendantJob → (runs : Bool) → (asked : Option EndCause) → Event → Option EndCause
asked_after job runs asked e = if ends_now job runs asked e then Some (cause_by e.kind) else asked

-- These events, which have come, are heard one after another. A command that runs is ended exactly at the first that asks for it.
unfoldable pub hears_these : AttendantJob → (runs : Bool) → (asked : Option EndCause) → List Event →
    AttendantPart (Option EndCause)
hears_these job runs asked [] = has_value working asked
hears_these job runs asked (e ∷ events) =
    goes_on working takes_oldest (λ _.
    goes_on working (hears_event job e) (λ _.
    goes_on working (ends_if (ends_now job runs asked e)) (λ _.
    hears_these job runs (asked_after job runs asked e) events)))

-- all that have come are heard
unfoldable pub hears_all : AttendantJob → (runs : Bool) → AttendantPart (Option EndCause)
hears_all job runs a = hears_these job runs None a.wire.ring.events a

-- a command is waited for, whose end may have been asked for
abbrev pub waits_for : Option EndCause → AttendantPart Ran
waits_for asked = goes_on working waits (λ status. has_value working (ran_by asked status))

-- A command runs: again and again it is looked whether it still runs, and all events are heard that the server had told by then.
-- It is waited for once it no longer runs, or was ended; and also after n looks.
unfoldable pub watches : ℕ → AttendantJob → AttendantPart Ran
watches zero job = waits_for None
watches (suc n) job =
    goes_on working looks (λ runs.
    goes_on working (asks_time job) (λ _.
    goes_on working (hears_all job runs) (λ asked.
    if runs && not (is_some asked) then watches n job else waits_for asked)))

abbrev pub most_looks : ℕ
most_looks = 2 ^ 64 - 1

-- what follows a start
abbrev pub follows_start : AttendantJob → BeganGot → AttendantPart Ran
follows_start job (got.Child child) = watches most_looks job
follows_start job got.Failed = has_value working not_started
follows_start job got.NoMemory = has_value working starved

-- a command is run, by its text and the digits since the last hang-up
abbrev pub runs_text : AttendantJob → (call : ℕ) → (text digits : List ℕ) → AttendantPart Ran
runs_text job call text digits = goes_on working (starts (command_words job call digits text)) (follows_start job)

-- none runs once the caller has hung up
unfoldable pub runs_command : AttendantJob → (call : ℕ) → (text : List ℕ) → AttendantPart Ran
runs_command job call text a =
    (if is_some a.line.gone then has_value working not_run else runs_text job call text a.line.digits) a

-- how a call ran: its greeting, and its message
abbrev pub call_runs : (greeting message : Ran) → CallRuns
call_runs greeting message = record { greeting = greeting; message = message }

-- the message is recorded after a good greeting
abbrev pub leaves_message : AttendantJob → (call : ℕ) → Ran → AttendantPart CallRuns
leaves_message job call greeting =
    if is_good greeting
    then goes_on working (runs_command job call job.answer.message.bytes) (λ message.
    has_value working (call_runs greeting message))
    else has_value working (call_runs greeting not_run)

-- the commands of a call are run
unfoldable pub runs_commands : AttendantJob → (call : ℕ) → AttendantPart CallRuns
runs_commands job call = goes_on working (runs_command job call job.answer.greeting.bytes) (leaves_message job call)

-- a call begins, or is over, on the line
abbrev pub begins : AttendantPart (Unit {0})
begins a = called [] (Ok tt) (record a { line = in_call a.line })

abbrev pub closes : AttendantPart (Unit {0})
closes a = called [] (Ok tt) (record a { line = over_call a.line })

-- some bytes are written
abbrev pub writes : List ℕ → AttendantPart (Unit {0})
writes bytes a = called (writing bytes) (Ok tt) a

-- the line of a call is written
unfoldable pub writes_call : (call time : ℕ) → CallRuns → AttendantPart (Unit {0})
writes_call call time runs a = writes (call_line call time (call_digits a.line) runs) a

-- The hook is taken off, what came meanwhile is heard, the commands are run, and the hook is put on.
unfoldable pub holds_call : AttendantJob → (call : ℕ) → AttendantPart CallRuns
holds_call job call =
    goes_on working (takes_off job) (λ _.
    goes_on working (hears_all job false) (λ _.
    goes_on working (runs_commands job call) (λ runs.
    goes_on working (puts_on job) (λ _.
    has_value working runs))))

-- a call is taken, and then its line is written
unfoldable pub takes_call : AttendantJob → (call : ℕ) → DevTime → AttendantPart CallRuns
takes_call job call time =
    goes_on working begins (λ _.
    goes_on working (holds_call job call) (λ runs.
    goes_on working (writes_call call time.0 runs) (λ _.
    goes_on working closes (λ _.
    has_value working runs))))

-- the most events that are read while waiting for one call
abbrev pub most_for_a_call : ℕ
most_for_a_call = 1000000

-- what follows an event that was heard while waiting for a call: it is taken, and the value is the time of the ring
abbrev pub takes_at : AttendantJob → AttendantPart DevTime → Event → AttendantPart DevTime
takes_at job more e a = (if is_taken job e a.line then has_value working e.time else more) a

-- it rings until a call is to be taken, or n events were read without that
unfoldable pub awaits_call : ℕ → AttendantJob → AttendantPart DevTime
awaits_call zero job = stops working rang_too_little
awaits_call (suc n) job = goes_on working (awaits_event job) (takes_at job (awaits_call n job))

-- n calls are awaited and taken, after those that are counted, or fewer if memory ran out in one
unfoldable pub attends : ℕ → AttendantJob → Tally → AttendantPart Tally
attends zero job t = has_value working t
attends (suc n) job t =
    goes_on working (awaits_call most_for_a_call job) (λ time.
    goes_on working (takes_call job (t.answered + 1) time) (λ runs.
    if is_starved runs then stops working command_starved else attends n job (tally_after runs t)))

-- events are asked for, and then all calls are taken
unfoldable pub attends_all : AttendantJob → AttendantPart Tally
attends_all job = goes_on working (selects job) (λ _. attends job.answer.calls job no_calls)

-- the numbers of calls are written
abbrev pub writes_tally : Tally → AttendantPart (Unit {0})
writes_tally t = writes (tally_text t)

-- whether the device of a job has a line, if it exists
abbrev pub line_at : AttendantJob → List DeviceInfo → Option Bool
line_at job devices = option_map (λ (device : DeviceInfo). device.line) (slice_get devices job.answer.device)

-- what is missing for a machine: the line of its device, or the device, of so many
abbrev pub missing : AttendantJob → Option Bool → (devices : ℕ) → Option AttendantFinish
missing job (Some true) devices = None
missing job (Some false) devices = Some (line_missing job.answer.device)
missing job None devices = Some (device_missing devices)

-- a machine on a link that is set up, by the devices of the server: if nothing is missing, it takes its calls and writes their
-- numbers
abbrev pub answers : AttendantJob → List DeviceInfo → AttendantPart (Unit {0})
answers job devices = option_map_or (λ finish. stops working finish) (missing job (line_at job devices) (length devices))
    (goes_on working (attends_all job) writes_tally)

-- why a machine ends: one that came to the end of its parts has answered all calls
abbrev pub finish_of : AttendantTrace → AttendantFinish
finish_of trace = elim (trace.end) [ Ok y ↦ all_answered | Err finish ↦ finish ]

-- how a machine ends
abbrev pub machine_end : AttendantFinish → AnswerEnd
machine_end all_answered = end.Done
machine_end (device_missing devices) = end.NoDevice devices
machine_end (line_missing device) = end.NoLine device
machine_end (off_hook_fault fault) = connection_end fault
machine_end (on_hook_fault fault) = connection_end fault
machine_end (watch_fault fault) = connection_end fault
machine_end (met_fault fault) = connection_end fault
machine_end rang_too_little = end.EventFlood
machine_end command_starved = end.OutOfMemory
