-- What the tool events does: it asks for events of the devices that are wanted, waits for them, and writes a line for each.
use Rattle.std.specs.Prelude.{ℕ, zero, suc, ◌+◌, ◌-◌, ◌^◌, ◌==◌, if◌then◌else◌, Bool, true, false, List, [], ◌∷◌, drop, length}
use Rattle.std.specs.Prelude.{slice_get, is_some, option_map, pos, unwrap_or, Result, Ok, Option, None, Some}
use Rattle.af_wire.specs.declared.event.Event.{Event}
use Rattle.af_time.specs.declared.DevTime.{DevTime}
use Rattle.af_sample.specs.declared.sample_type.SampleType.TheVariants.{Mu255}
use Rattle.af_sample.specs.SampleTypes.{code_of}
use Rattle.af_request.specs.Asked.{Asked, create_ac, free_ac, record_run, select_events}
use Rattle.af_request.specs.declared.reply.DeviceInfo.{DeviceInfo}
use Rattle.af_lib.specs.declared.fault.ConnFault.{ConnFault}
use Rattle.af_lib.specs.declared.fault.ConnFault.TheVariants as fault
use Rattle.af_lib.specs.Calls.{as_done, as_recorded, event_of}
use Rattle.af_lib.specs.Incoming.{after_message}
use Rattle.af_cli.specs.declared.events.DeviceChoice.{DeviceChoice}
use Rattle.af_cli.specs.declared.events.DeviceChoice.TheVariants as choice
use Rattle.af_cli.specs.declared.events.EventKinds.{EventKinds}
use Rattle.af_cli.specs.Events.{mask_of}
use Rattle.af_toolkit.specs.Parts.{Goes, called, goes_on, has_value, stops}
use Rattle.af_toolkit.specs.Trace.{ClientState, Trace, done, ends, refused}
use Rattle.af_toolkit.specs.ToolParts.{LinkSight, ToolPart, asks, begins, deeds, doing, tooling, trace_of, writes}
use Rattle.af_toolkit.specs.declared.end.ToolEnd.{ToolEnd}
use Rattle.af_toolkit.specs.declared.end.ToolEnd.TheVariants as tool
use Rattle.af_events.specs.declared.end.EventsEnd.{EventsEnd}
use Rattle.af_events.specs.declared.end.EventsEnd.TheVariants as end
use Rattle.af_events.specs.declared.job.EventsJob.{EventsJob}
use Rattle.af_events.specs.declared.span.Span.{Span}
use Rattle.af_events.specs.Lines.{is_asked, line_for}
use Rattle.af_events.specs.Spans.{frame_time, frames_of, is_at_end, span_of}

-- after how many events a job is done: one without a count has more to tell than there is time for
abbrev pub count_of : EventsJob → ℕ
count_of job = unwrap_or job.count (2 ^ 64 - 1)

-- whether any of these devices has a line
abbrev pub has_line : List DeviceInfo → Bool
has_line [] = false
has_line (device ∷ more) = if device.line then true else has_line more

-- how the tool ends at once where the device that is wanted is missing, of so many, or has no line
abbrev pub missing_one : ℕ → Option DeviceInfo → (devices : ℕ) → Option EventsEnd
missing_one number (Some device) devices = if device.line then None else Some (end.NoLine number)
missing_one number None devices = Some (end.Tool (tool.NoDevice devices))

-- the same, also where all devices are wanted and none has a line
abbrev pub missing : DeviceChoice → List DeviceInfo → Option EventsEnd
missing (choice.One number) devices = missing_one number (slice_get devices number) (length devices)
missing choice.All devices = if has_line devices then None else Some (end.NoLine 0)

-- a server is asked for events of a device
abbrev pub selects : EventKinds → (device : ℕ) → ToolPart (Unit {0})
selects kinds device = asks (select_events device (mask_of kinds)) as_done

-- it is asked for those of each device that has a line, from this number on
abbrev pub selects_if : Bool → EventKinds → (device : ℕ) → ToolPart (Unit {0})
selects_if true kinds device = selects kinds device
selects_if false kinds device = has_value doing tt

abbrev pub selects_from : EventKinds → (number : ℕ) → List DeviceInfo → ToolPart (Unit {0})
selects_from kinds number [] = has_value doing tt
selects_from kinds number (device ∷ more) =
    goes_on doing (selects_if device.line kinds number) (λ _. selects_from kinds (number + 1) more)

-- it is asked for those that are wanted
abbrev pub selects_all : DeviceChoice → EventKinds → List DeviceInfo → ToolPart (Unit {0})
selects_all (choice.One number) kinds devices = selects kinds number
selects_all choice.All kinds devices = selects_from kinds 0 devices

-- each event that came before the last reply was kept; if one was lost, the tool ends
unfoldable pub keeps_every : ToolPart (Unit {0})
keeps_every w = if w.ring.lost == 0 then has_value doing tt w else stops doing fault.EventFlood w

-- the event that a client gets next: the oldest of its ring, or else the next message
abbrev pub next_event : ClientState → Result Event ConnFault
next_event w = unwrap_or (option_map (λ (e : Event). Ok e) (slice_get w.ring.events 0)) (event_of w.order w.input)

-- a client after that event
abbrev pub after_event : ClientState → ClientState
after_event w = record w {
  ring = record w.ring { events = drop 1 w.ring.events };
  input = if is_some (slice_get w.ring.events 0) then w.input else after_message w.order w.input;
}

-- an event is waited for, for which nothing is sent
unfoldable pub awaits_event : ToolPart Event
awaits_event w = called (deeds [] []) (next_event w) (after_event w)

-- how many events are still to be told after an event
abbrev pub left_after : EventsJob → (left : ℕ) → Event → ℕ
left_after job left e = if is_asked job e then left - 1 else left

-- the line of an event is written if it is asked for, and the value is how many are still to be told
abbrev pub tells_one : EventsJob → (left : ℕ) → Event → ToolPart ℕ
tells_one job left e = goes_on doing (writes (line_for job e)) (λ _. has_value doing (left_after job left e))

-- Events are waited for and told until none is left to be told. After n events without that, the tool ends.
unfoldable pub tells : (n : ℕ) → EventsJob → (left : ℕ) → ToolPart (Unit {0})
tells zero job left = stops doing fault.EventFlood
tells (suc n) job left =
    goes_on doing awaits_event (λ e.
    goes_on doing (tells_one job left e) (λ more.
    if more == 0 then has_value doing tt else tells n job more))

-- the most events that are waited for
abbrev pub most_waits : ℕ
most_waits = 2 ^ 64 - 1

-- As many events are told as a client keeps, the oldest first, until none is left to be told. The value is how many are left.
unfoldable pub tells_oldest : (n : ℕ) → EventsJob → (left : ℕ) → ToolPart ℕ
tells_oldest zero job left = has_value doing left
tells_oldest (suc n) job left =
    goes_on doing awaits_event (λ e.
    goes_on doing (tells_one job left e) (λ more.
    if more == 0 then has_value doing 0 else tells_oldest n job more))

unfoldable pub tells_kept : EventsJob → (left : ℕ) → ToolPart ℕ
tells_kept job left w = tells_oldest (length w.ring.events) job left w

-- the same if none was lost
abbrev pub tells_ring : EventsJob → (left : ℕ) → ToolPart ℕ
tells_ring job left = goes_on doing keeps_every (λ _. tells_kept job left)

-- A frame of mu-law, a byte for each channel, is recorded: the reply comes once it has gone by, and tells the device's time.
unfoldable pub hears_frame : (channels at : ℕ) → ToolPart DevTime
hears_frame channels at =
    goes_on doing (asks (record_run true 1 at channels) (as_recorded true channels)) (λ r. has_value doing r.time)

-- What came is told, and then a frame is waited for, at most so many times. The device has told this time last.
unfoldable pub tells_until : (n : ℕ) → Span → (start : ℕ) → EventsJob → (number told left : ℕ) → ToolPart (Unit {0})
tells_until zero span start job number told left = goes_on doing (tells_ring job left) (λ _. has_value doing tt)
tells_until (suc n) span start job number told left =
    goes_on doing (tells_ring job left) (λ more.
    if is_at_end span start told more then has_value doing tt
    else goes_on doing (hears_frame span.channels (frame_time span start number)) (λ now.
    tells_until n span start job (number + 1) now.0 more))

-- events are told for a time, from a time of the device on
abbrev pub tells_during : Span → (start : ℕ) → EventsJob → ToolPart (Unit {0})
tells_during span start job = tells_until (frames_of span) span start job 1 start (count_of job)

-- the context on the device whose time counts: the server is to give mu-law
abbrev pub clock_context : Span → Asked
clock_context span = create_ac span.device 1 (code_of Mu255) span.channels 0 (pos 0) (pos 0)

-- it is made and tells the device's time, events are told for a time, and it is freed
unfoldable pub tells_for : Span → EventsJob → ToolPart (Unit {0})
tells_for span job =
    goes_on doing (begins (clock_context span) span.device) (λ now.
    goes_on doing (tells_during span now.0 job) (λ _.
    asks (free_ac 1) as_done))

-- events are told for a time if one is stated, and else until the count is reached; then nothing more is sent
abbrev pub tells_by : Option ℕ → EventsJob → List DeviceInfo → ToolPart (Unit {0})
tells_by None job devices = tells most_waits job (count_of job)
tells_by (Some milliseconds) job devices = tells_for (span_of milliseconds job.devices devices) job

-- all of it, by the devices of the server
unfoldable pub tells_all : EventsJob → List DeviceInfo → ToolPart (Unit {0})
tells_all job devices =
    goes_on doing (selects_all job.devices job.kinds devices) (λ _.
    goes_on doing keeps_every (λ _.
    tells_by job.lasting job devices))

-- the trace of the tool, by the devices of the server and what the link gives
unfoldable pub events_trace : EventsJob → List DeviceInfo → ClientState → Trace
events_trace job devices w = trace_of refused (tells_all job devices w) (λ _. ends done)

-- a part that only writes went so, whatever its link was sent
abbrev pub GoesOnSink : {K X : Type 0} → (held : K → Option (List ℕ)) → (sink sink' : K) → ToolPart X → Result X ToolEnd → Type 0
GoesOnSink held sink sink' part result = (link : LinkSight) →
    Goes (tooling refused) part result (record { link = link; held = held sink }) (record { link = link; held = held sink' })
