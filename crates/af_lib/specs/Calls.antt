-- What a call of a connection sends, takes and answers.
use Rattle.std.specs.Prelude.{◌≡◌, ◌≢◌, ◌≤◌, ◌+◌, ◌%◌, ◌^◌, ◌↔◌, ◌==◌, nat_le, if◌then◌else◌, ⊤, ◌⊎◌, ℕ, ℤ, pos, Bool, List, []}
use Rattle.std.specs.Prelude.{length, take, drop, slice_get, is_some, option_and_then, option_map, unwrap_or, Result, Ok, Err}
use Rattle.std.specs.Prelude.{IsOk, IsSome, Option, None, Some}
use Rattle.af_limits.specs.Limits.{most_events}
use Rattle.af_time.specs.declared.DevTime.{DevTime}
use Rattle.af_io.specs.Observed.{Appended, FaultCounted}
use Rattle.af_io.specs.Flow.{AppendedPrefix}
use Rattle.af_request.specs.declared.reply.Controls.{Controls}
use Rattle.af_request.specs.declared.reply.DeviceInfo.{DeviceInfo}
use Rattle.af_request.specs.declared.reply.Phone.{Phone}
use Rattle.af_request.specs.Asked.{Asked, change_ac, set_controls}
use Rattle.af_request.specs.Answer.{Answer, setup, plain, time, played, recorded, controls, phone}
use Rattle.af_request.specs.Fields.{flag_byte, u8_at}
use Rattle.af_request.specs.Requests.{request_bytes}
use Rattle.af_wire.specs.declared.order.Order.{Order}
use Rattle.af_wire.specs.declared.order.Order.TheVariants.{Big}
use Rattle.af_wire.specs.declared.event.Event.{Event}
use Rattle.af_wire.specs.Front.{setup_bytes}
use Rattle.arrayvec.specs.ArrayVec.{ArrayVec}
use Rattle.af_request.specs.Replies.{answer_in}
use Rattle.af_request.specs.Opcodes as opcodes
use Rattle.af_lib.specs.declared.fault.Cause.{Cause}
use Rattle.af_lib.specs.declared.fault.Cause.TheVariants as cause
use Rattle.af_lib.specs.declared.fault.ConnFault.{ConnFault}
use Rattle.af_lib.specs.declared.fault.ConnFault.TheVariants as fault
use Rattle.af_lib.specs.Ring.{Gained, RingState}
use Rattle.af_lib.specs.Incoming.{Incoming, event, other, awaited_message, incoming, after_message}
use Rattle.af_lib.specs.Answers.{and_then, answer_to, bad_reply, value_or_bad}
use Rattle.af_lib.specs.Observed.{BothTold, OnlyRead}

-- a connection: its link, its byte order, the devices of the reply to its setup, the number of the last request that it sent, its
-- ring of events, and the first fault after which it can no longer be used
pub record ConnState (L : Type 0) : Type 0 where
  pub link : L
  pub order : Order
  pub devices : List DeviceInfo
  pub sequence : ℕ
  pub ring : RingState
  pub cause : Option Cause

-- the number of the next request
abbrev pub next_sequence : ℕ → ℕ
next_sequence sequence = (sequence + 1) % 2 ^ 16

-- the opcode of a request: its first byte, in either order
abbrev pub opcode_of : Asked → ℕ
opcode_of asked = u8_at 0 (request_bytes Big asked)

-- a reply read as: the request was performed
abbrev pub as_done : Answer → Option Unit
as_done plain = Some tt
as_done _ = None

-- the device's time
abbrev pub as_time : Answer → Option DevTime
as_time (time now) = Some (record { 0 = now })
as_time (played now) = Some (record { 0 = now })
as_time _ = None

-- the controls of a device
abbrev pub as_controls : Answer → Option Controls
as_controls (controls c) = Some c
as_controls _ = None

-- the state of a telephone line
abbrev pub as_phone : Answer → Option Phone
as_phone (phone p) = Some p
as_phone _ = None

-- the devices of a server
abbrev pub as_devices : Answer → Option (List DeviceInfo)
as_devices (setup devices) = Some devices
as_devices _ = None

-- recorded samples, and the device's time
pub record Recorded : Type 0 where
  pub time : DevTime
  pub samples : List ℕ

-- recorded samples: as many as were asked for if the request blocks, and else at most as many
abbrev pub as_recorded : Bool → ℕ → Answer → Option Recorded
as_recorded blocking asked (recorded now samples) =
    if (if blocking then length samples == asked else nat_le (length samples) asked)
    then Some (record { time = record { 0 = now }; samples = samples })
    else None
as_recorded blocking asked _ = None

-- the value that the reply in a message states
abbrev pub value_in : {X : Type 0} → Order → (Answer → Option X) → ℕ → List ℕ → Result X ConnFault
value_in order value_of opcode bytes = value_or_bad bytes (option_and_then value_of (answer_in order opcode (drop 8 bytes)))

-- the answer of the message that was found to a request with this opcode and number
abbrev pub answer_of : {X : Type 0} → Order → (Answer → Option X) → ℕ → ℕ → Result (List ℕ) ConnFault → Result X ConnFault
answer_of order value_of opcode sequence found =
    and_then (value_in order value_of opcode) (and_then (answer_to order opcode sequence) found)

-- the fault, if the connection can no longer be used after it
abbrev pub cause_of : {X : Type 0} → Result X ConnFault → Option Cause
cause_of (Err fault.LinkFault) = Some cause.LinkFault
cause_of (Err fault.LinkEnded) = Some cause.LinkEnded
cause_of (Err (fault.BadReply header first)) = Some cause.BadReply
cause_of (Err fault.EventFlood) = Some cause.EventFlood
cause_of _ = None

-- an answer of a connection that can still be used
abbrev pub IsFresh : {X : Type 0} → Result X ConnFault → Type 0
IsFresh (Err (fault.Spent first)) = ⊥
IsFresh (Err fault.OutOfMemory) = ⊥
IsFresh _ = ⊤

-- an answer to one message that is awaited: the message, a link that failed or ended, or a bad message
abbrev pub IsOfMessage : {X : Type 0} → Result X ConnFault → Type 0
IsOfMessage (Ok x) = ⊤
IsOfMessage (Err fault.LinkFault) = ⊤
IsOfMessage (Err fault.LinkEnded) = ⊤
IsOfMessage (Err (fault.BadReply header first)) = ⊤
IsOfMessage _ = ⊥

-- all bytes were sent, or a part of them if the link failed
pub record Sends {X : Type 0} (result : Result X ConnFault) (before : Option (List ℕ)) (bytes : List ℕ)
    (after : Option (List ℕ)) : Type 0 where
  pub whole : result ≢ Err fault.LinkFault → Appended before bytes after
  pub part : AppendedPrefix before bytes after

-- if the link did not fail and its bytes are observable, exactly the messages up to the first that is no event were taken, the
-- events went into the ring, and the result is what comes of that message
abbrev pub Answers : {X : Type 0} → Order → (Result (List ℕ) ConnFault → Result X ConnFault) → Result X ConnFault →
    RingState → RingState → Option (List ℕ) → Option (List ℕ) → Type 0
Answers order answer result ring ring' before after = result ≢ Err fault.LinkFault → BothTold before after (λ b a.
    (result ≡ answer (awaited_message order most_events ring b).found)
    × (ring' ≡ (awaited_message order most_events ring b).ring) × (a ≡ (awaited_message order most_events ring b).rest))

-- the same for a link that was only read, of which the first message is what was awaited
abbrev pub TakesFirst : {X : Type 0} → Result X ConnFault → (List ℕ → Result X ConnFault) → Order → Option (List ℕ) →
    Option (List ℕ) → Type 0
TakesFirst result first order before after =
    result ≢ Err fault.LinkFault → BothTold before after (λ b a. (result ≡ first b) × (a ≡ after_message order b))

-- Bytes were sent over a link, and an answer was taken, with this result.
pub record Exchanged {L X : Type 0} (left sent : L → Option (List ℕ)) (faults : L → ℕ) (order : Order) (bytes : List ℕ)
    (answer : Result (List ℕ) ConnFault → Result X ConnFault) (result : Result X ConnFault) (old new : L)
    (ring ring' : RingState) : Type 0 where
  -- exactly these bytes were sent
  pub sends : Sends result (sent old) bytes (sent new)
  -- exactly their answer was taken
  pub answers : Answers order answer result ring ring' (left old) (left new)
  -- the ring gained events and nothing else, also if the link failed
  pub gained : Gained ring ring'
  -- the result is neither Spent nor OutOfMemory
  pub fresh : IsFresh result
  -- bytes that are observable stay so
  pub tells : IsSome (left old) → IsSome (left new)
  -- LinkFault only if the link's count of faults rose
  pub failed : result ≡ Err fault.LinkFault → FaultCounted (faults old) (faults new)
  pub count : faults old ≤ faults new

-- recorded samples, which are in a buffer
abbrev pub recorded_as : List ℕ → (DevTime × ℕ) → Recorded
recorded_as into r = record { time = r.0; samples = take r.1 into }

abbrev pub recorded_in : Result (DevTime × ℕ) ConnFault → List ℕ → Result Recorded ConnFault
recorded_in result into = and_then (λ r. Ok (recorded_as into r)) result

-- the buffer past what was recorded stays as it was, and all of it if nothing was recorded
abbrev pub KeepsTail : Option (DevTime × ℕ) → List ℕ → List ℕ → Type 0
KeepsTail (Some r) old new = drop r.1 new ≡ drop r.1 old
KeepsTail None old new = new ≡ old

-- devices, as the list of them
abbrev pub device_list : Result (ArrayVec DeviceInfo) ConnFault → Result (List DeviceInfo) ConnFault
device_list result = and_then (λ devices. Ok devices.items) result

-- the channels of the device with a number among those of a server, or one if there is none
abbrev pub channels_or_one : Option DeviceInfo → ℕ
channels_or_one (Some device) = device.channels
channels_or_one None = 1

abbrev pub device_channels : List DeviceInfo → ℕ → ℕ
device_channels devices number = channels_or_one (slice_get devices number)

-- a field that a request changes, or zero
abbrev pub gain_or_zero : Option ℤ → ℤ
gain_or_zero gain = unwrap_or gain (pos 0)

abbrev pub flag_or_zero : Option Bool → ℕ
flag_or_zero flag = unwrap_or (option_map flag_byte flag) 0

-- the bit of a field in the mask of those that a request changes
abbrev pub bit_if : ℕ → Bool → ℕ
bit_if bit there = if there then bit else 0

-- the request that changes the stated settings of a context
abbrev pub settings_request : ℕ → Option ℤ → Option ℤ → Option Bool → Asked
settings_request ac play record_by preempt =
    change_ac (bit_if 1 (is_some play) + bit_if 2 (is_some record_by) + bit_if 4 (is_some preempt)) ac
    (flag_or_zero preempt) (gain_or_zero play) (gain_or_zero record_by)

-- the request that changes the stated controls of a device
abbrev pub controls_request : ℕ → Option ℤ → Option ℤ → Option Bool → Option Bool → Asked
controls_request device input_gain output_gain input_on output_on =
    set_controls device
    (bit_if 1 (is_some input_gain) + bit_if 2 (is_some output_gain)
    + bit_if 4 (is_some input_on) + bit_if 8 (is_some output_on))
    (flag_or_zero input_on) (flag_or_zero output_on) (gain_or_zero input_gain) (gain_or_zero output_gain)

-- the first message of an input, as a client that waits for an event takes it
abbrev pub event_only : Incoming → Result Event ConnFault
event_only (event e) = Ok e
event_only (other bytes) = Err (bad_reply bytes)

abbrev pub event_of : Order → List ℕ → Result Event ConnFault
event_of order input = and_then event_only (incoming order input)

-- A call of a connection that sends a request and takes its answer. It goes by the bytes that the link has left to give and was
-- sent, if they are observable, and by its count of faults.
pub record Called {L X : Type 0} (left sent : L → Option (List ℕ)) (faults : L → ℕ) (asked : Asked) (value_of : Answer → Option X)
    (old new : ConnState L) (result : Result X ConnFault) : Type 0 where
  -- Spent exactly if an earlier call answered a fault after which the connection can no longer be used: the first such fault
  pub spent : (first : Cause) → (result ≡ Err (fault.Spent first)) ↔ (old.cause ≡ Some first)
  -- and then nothing is read or written
  pub untouched : IsSome old.cause → new ≡ old
  -- exactly the request was sent, and exactly its answer was taken
  pub exchanged : old.cause ≡ None → Exchanged left sent faults old.order (request_bytes old.order asked)
      (answer_of old.order value_of (opcode_of asked) (next_sequence old.sequence)) result old.link new.link old.ring new.ring
  -- the order and the devices stay, and a fault is kept
  pub keeps : old.cause ≡ None →
      new ≡ record old { link = new.link; sequence = next_sequence old.sequence; ring = new.ring; cause = cause_of result }

-- A call that waits for an event: the oldest of the ring, or the next message if the ring is empty.
pub record EventAwaited {L : Type 0} (left sent : L → Option (List ℕ)) (faults : L → ℕ) (old new : ConnState L)
    (result : Result Event ConnFault) : Type 0 where
  -- Spent exactly if an earlier call answered a fault after which the connection can no longer be used: the first such fault
  pub spent : (first : Cause) → (result ≡ Err (fault.Spent first)) ↔ (old.cause ≡ Some first)
  -- and then nothing is read
  pub untouched : IsSome old.cause → new ≡ old
  -- the oldest event of the ring, and nothing is read
  pub oldest : old.cause ≡ None → (e : Event) → slice_get old.ring.events 0 ≡ Some e →
      (result ≡ Ok e) × (new ≡ record old { ring = record old.ring { events = drop 1 old.ring.events } })
  -- exactly one message was taken
  pub next : old.cause ≡ None → slice_get old.ring.events 0 ≡ None →
      TakesFirst result (event_of old.order) old.order (left old.link) (left new.link)
  -- except for Spent, the answer is an event, LinkFault, LinkEnded or BadReply
  pub answer : old.cause ≡ None → IsOfMessage result
  -- the ring stays empty, and a fault is kept
  pub keeps : old.cause ≡ None → slice_get old.ring.events 0 ≡ None →
      new ≡ record old { link = new.link; cause = cause_of result }
  -- nothing is sent, and LinkFault is answered only if the link's count of faults rose
  pub read : OnlyRead left sent faults (result ≡ Err fault.LinkFault) old.link new.link

-- a setup was sent in a byte order, with this answer
abbrev pub IsSetUp : {L : Type 0} → Order → (left sent : L → Option (List ℕ)) → (faults : L → ℕ) → (old new : L) → RingState →
    Result (List DeviceInfo) ConnFault → Type 0
IsSetUp order left sent faults old new ring result =
    Exchanged left sent faults order (setup_bytes order) (answer_of order as_devices opcodes.setup 0) result old new
    (record { events = []; lost = 0 }) ring

-- a connection that was set up; or a fault, with the link, which is as it was if memory ran out
abbrev pub Connects : {L : Type 0} → Order → (L → Option (List ℕ)) → (L → Option (List ℕ)) → (L → ℕ) → L →
    Result (ConnState L) (ConnFault × L) → Type 0
Connects order left sent faults link (Ok conn) =
    (conn.order ≡ order) × (conn.sequence ≡ 0) × (conn.cause ≡ None)
    × IsSetUp order left sent faults link conn.link conn.ring (Ok conn.devices)
Connects order left sent faults link (Err e) =
    ((e.0 ≡ fault.OutOfMemory) × (e.1 ≡ link)) ⊎ ((ring : RingState) × IsSetUp order left sent faults link e.1 ring (Err e.0))

-- Each call of a connection whose reply states such a value is Ok if the observable bytes of its link hold the awaited reply, and
-- its count of faults did not rise.
abbrev pub IsOkWhereAwaited : {L X : Type 0} → (left sent : L → Option (List ℕ)) → (faults : L → ℕ) → (Answer → Option X) → Type 0
IsOkWhereAwaited {L} {X} left sent faults value_of = (asked : Asked) (old new : ConnState L) (answer : Result X ConnFault) →
    Called left sent faults asked value_of old new answer →
    old.cause ≡ None → ¬ (FaultCounted (faults old.link) (faults new.link)) → BothTold (left old.link) (left new.link) (λ b a.
    IsOk (answer_of old.order value_of (opcode_of asked) (next_sequence old.sequence)
    (awaited_message old.order most_events old.ring b).found) → IsOk answer)
