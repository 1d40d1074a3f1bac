-- The trace of a tool: what it sends on its link, what it writes, and why it ends, by what the link gives. A tool sends each
-- request once it has read the reply to the one before, so a trace goes on from reply to reply.
use Rattle.std.specs.Prelude.{ℕ, ◌==◌, if◌then◌else◌, List, [], ◌∷◌, ◌++◌, length, slice_get, ok_or, Result, Ok, Err}
use Rattle.std.specs.declared.option.Option.{Option}
use Rattle.af_limits.specs.Limits.{most_events}
use Rattle.af_request.specs.declared.reply.DeviceInfo.{DeviceInfo}
use Rattle.af_request.specs.Asked.{Asked}
use Rattle.af_request.specs.Answer.{Answer}
use Rattle.af_request.specs.Opcodes as opcodes
use Rattle.af_lib.specs.declared.fault.ConnFault.{ConnFault}
use Rattle.af_lib.specs.declared.fault.ConnFault.TheVariants as fault
use Rattle.af_lib.specs.Ring.{RingState}
use Rattle.af_lib.specs.Incoming.{Awaited, awaited_message}
use Rattle.af_wire.specs.declared.order.Order.{Order}
use Rattle.af_wire.specs.Front.{setup_bytes}
use Rattle.af_lib.specs.Calls.{answer_of, as_devices, next_sequence, opcode_of}
use Rattle.af_io.specs.Dial.{ToldLink}
use Rattle.af_sound.specs.declared.head.SoundFault.{SoundFault}
use Rattle.af_toolkit.specs.declared.end.ToolEnd.{ToolEnd}
use Rattle.af_toolkit.specs.declared.end.ToolEnd.TheVariants as end

-- a client's byte order, the number of its last request, its ring of events, and what its link gives that it has not taken
pub record ClientState : Type 0 where
  pub order : Order
  pub sequence : ℕ
  pub ring : RingState
  pub input : List ℕ

-- why a tool ends
pub data Finish : Type 0 where
  done : Finish
  not_dialled : Finish
  no_device : (devices : ℕ) → Finish
  -- two devices, or a file and a device, have these different rates
  mismatch : (from to : ℕ) → Finish
  -- two devices, or a file and a device, have these different numbers of channels
  channel_mismatch : (from to : ℕ) → Finish
  -- the source does not begin with the header of a sound file, or ends within one
  bad_sound : (fault : SoundFault) → Finish
  sound_cut : Finish
  -- a strict tool did all, and some of the sound was lost
  sound_lost : Finish
  too_long : Finish
  -- a request was answered with this fault
  refused : (fault : ConnFault) → Finish

pub record Trace : Type 0 where
  pub sends : List ℕ
  pub output : List ℕ
  pub finish : Finish

-- nothing more is sent or written
abbrev pub ends : Finish → Trace
ends finish = record { sends = []; output = []; finish = finish }

-- these bytes are sent first
abbrev pub sends_first : List ℕ → Trace → Trace
sends_first bytes c = record { sends = bytes ++ c.sends; output = c.output; finish = c.finish }

-- these bytes are written first
abbrev pub writes_first : List ℕ → Trace → Trace
writes_first bytes c = record { sends = c.sends; output = bytes ++ c.output; finish = c.finish }

-- what follows an answer: a fault ends the tool
abbrev pub after_answer : {X : Type 0} → Result X ConnFault → ClientState → (X → ClientState → Trace) → Trace
after_answer (Ok x) w next = next x w
after_answer (Err fault) w next = ends (refused fault)

-- the message that a client awaits next
abbrev pub next_message : ClientState → Awaited
next_message w = awaited_message w.order most_events w.ring w.input

-- a client that has sent a request and taken its answer
abbrev pub after_reply : ClientState → ClientState
after_reply w =
    record { order = w.order; sequence = next_sequence w.sequence; ring = (next_message w).ring; input = (next_message w).rest }

-- what the link answers to a request
abbrev pub answer_on : {X : Type 0} → Asked → (Answer → Option X) → ClientState → Result X ConnFault
answer_on asked value_of w = answer_of w.order value_of (opcode_of asked) (next_sequence w.sequence) (next_message w).found

-- what follows a value that is there; without it the tool ends
abbrev pub trace_by : {X : Type 0} → Result X Finish → (X → Trace) → Trace
trace_by (Ok x) next = next x
trace_by (Err finish) next = ends finish

-- a value that is there leads to another one or to an end, and an end stays
abbrev pub value_by : {X Y : Type 0} → Result X Finish → (X → Result Y Finish) → Result Y Finish
value_by (Ok x) next = next x
value_by (Err finish) next = Err finish

-- the device with this number, which has to exist
abbrev pub device_at : ℕ → List DeviceInfo → Result DeviceInfo Finish
device_at number devices = ok_or (slice_get devices number) (no_device (length devices))

abbrev pub with_job_device : ℕ → List DeviceInfo → (DeviceInfo → Trace) → Trace
with_job_device number devices next = trace_by (device_at number devices) next

-- two devices, or a file and a device, have to have one rate and as many channels
abbrev pub one_shape : (rate channels other_rate other_channels : ℕ) → Result (Unit {0}) Finish
one_shape rate channels other_rate other_channels =
    if rate == other_rate
    then (if channels == other_channels then Ok tt else Err (channel_mismatch channels other_channels))
    else Err (mismatch rate other_rate)

-- a client with a byte order that has sent no request
abbrev pub new_client : Order → RingState → List ℕ → ClientState
new_client order ring input = record { order = order; sequence = 0; ring = ring; input = input }

-- a client whose link gives these bytes, before its setup
abbrev pub client_before_setup : Order → List ℕ → ClientState
client_before_setup order input = new_client order (record { events = []; lost = 0 }) input

-- a client that has taken the answer to its setup
abbrev pub client_after_setup : Order → List ℕ → ClientState
client_after_setup order input =
    new_client order (next_message (client_before_setup order input)).ring (next_message (client_before_setup order input)).rest

-- what the link answers to the setup
abbrev pub setup_answer : Order → List ℕ → Result (List DeviceInfo) ConnFault
setup_answer order input = answer_of order as_devices opcodes.setup 0 (next_message (client_before_setup order input)).found

-- the setup of a byte order is sent, and what follows goes by the devices of its answer
unfoldable pub connects : Order → List ℕ → (List DeviceInfo → ClientState → Trace) → Trace
connects order input next =
    sends_first (setup_bytes order) (after_answer (setup_answer order input) (client_after_setup order input) next)

-- the first link that a dial gives is set up in a byte order
abbrev pub dials : Order → List ToldLink → (List DeviceInfo → ClientState → Trace) → Trace
dials order [] next = ends not_dialled
dials order (link ∷ links) next = connects order link.gives next

-- how a tool ends at a fault of its connection
abbrev pub fault_end : ConnFault → ToolEnd
fault_end fault.LinkFault = end.LinkFault
fault_end fault.LinkEnded = end.LinkEnded
fault_end (fault.Spent first) = end.LinkFault
fault_end (fault.ServerError code value) = end.Refused code value
fault_end (fault.BadReply header first) = end.BadReply header first
fault_end fault.OutOfMemory = end.OutOfMemory
fault_end fault.EventFlood = end.EventFlood

-- how a tool ends
abbrev pub tool_end : Finish → ToolEnd
tool_end done = end.Done
tool_end not_dialled = end.DialFault
tool_end (no_device devices) = end.NoDevice devices
tool_end (mismatch from to) = end.RateMismatch from to
tool_end (channel_mismatch from to) = end.ChannelMismatch from to
tool_end (bad_sound fault) = end.BadSound fault
tool_end sound_cut = end.SoundCut
tool_end sound_lost = end.SoundLost
tool_end too_long = end.TooLong
tool_end (refused fault) = fault_end fault
