-- What a link is told of the requests that it performs: those of a client that records.
use Rattle.std.specs.Prelude.{◌≡◌, ◌≤◌, ◌⊎◌, ℕ, ◌+◌, ◌%◌, ◌^◌, true, ℤ, List, [], ◌∷◌, ◌++◌, slice_get, IfSome}
use Rattle.std.specs.List.{All}
use Rattle.std.specs.declared.option.Option.{Option}
use Rattle.std.specs.declared.option.Option.TheVariants.{None, Some}
use Rattle.af_time.specs.DeviceTime.{unwrap}
use Rattle.af_context.specs.declared.Context.{Context}
use Rattle.af_context.specs.Contexts.{context_of, creation, reference}
use Rattle.af_wire.specs.declared.order.Order.{Order}
use Rattle.af_wire.specs.Begins.{BeginsWith}
use Rattle.af_request.specs.Asked.{Asked, create_ac, free_ac, get_time, record_run}
use Rattle.af_request.specs.Answer.{plain, recorded, time as time_answer}
use Rattle.af_request.specs.Opcodes as opcodes
use Rattle.af_request.specs.Requests.{IsWritable}
use Rattle.af_world.specs.declared.script.DeviceSpec.{DeviceSpec}
use Rattle.af_world.specs.Log.{Log}
use Rattle.af_model.specs.State.{Deferral, DeviceState, LinkState, State, deferred_record, none_selected, slot_at}
use Rattle.af_model.specs.Checks.{context_refusal}
use Rattle.af_model.specs.ContextRequests.{creation_refusal}
use Rattle.af_model.specs.Reply.{reply_message}
use Rattle.af_model.specs.Play.{frames_of}
use Rattle.af_model.specs.Record.{record_refusal, recorded_bytes}
use Rattle.af_model.specs.Perform.{channels_at}
use Rattle.af_model.specs.Run.{end_state}
use Rattle.af_end_to_end.specs.Sent.{client_bytes}
use Rattle.af_end_to_end.specs.Performing.{contexts_after, own_waiting}
use Rattle.af_end_to_end.specs.Playing.{AreTurns, StaysOpen, Turn, end_of, given_in}
use Rattle.af_end_to_end.specs.Sounding.{IsNew}

-- A device as it was

-- A device, and what it has become: its time did not fall, and what it has captured since comes after all that it had captured.
pub record IsEarlier (d e : DeviceState) : Type 0 where
  pub now : d.now ≤ e.now
  pub begin : e.begin ≡ d.begin
  pub rate : e.rate ≡ d.rate
  pub channels : e.channels ≡ d.channels
  pub more : List ℤ
  pub captured : e.captured ≡ d.captured ++ more

-- one of these devices was so once
pub record WasSo (devices : List DeviceState) (d : ℕ) (past : DeviceState) : Type 0 where
  pub device : DeviceState
  pub is_there : slice_get devices d ≡ Some device
  pub earlier : IsEarlier past device

-- The answers

-- A Record that waits for its frames, of n bytes from a word on, is answered: with the frames from the whole time on that the
-- word meant when it was performed, as the device recorded them, and with the time that the device has then.
pub record IsRecordAnswer (order : Order) (number : ℕ) (devices : List DeviceState) (c : Context) (word n : ℕ)
    (message : List ℕ) : Type 0 where
  pub performed : ℕ
  pub since_begin : 2 ^ 32 ≤ performed
  pub device : DeviceState
  pub was_so : WasSo devices c.device device
  pub later : performed ≤ device.now
  pub is : message ≡ reply_message order opcodes.record (recorded (device.now % 2 ^ 32)
      (recorded_bytes c device (unwrap performed word) (frames_of device.channels c n))) number

-- it is still deferred
pub record IsRecordHeld (devices : List DeviceState) (c : Context) (word n : ℕ) (w : Deferral) : Type 0 where
  pub performed : ℕ
  pub since_begin : 2 ^ 32 ≤ performed
  pub device : DeviceState
  pub is_there : slice_get devices c.device ≡ Some device
  pub later : performed ≤ device.now
  pub on_it : w.device ≡ c.device
  pub held : w.deferred ≡ deferred_record c (unwrap performed word) (frames_of device.channels c n)

-- a request that a client makes which only records
abbrev pub IsOfRecorder : Asked → Type 0
IsOfRecorder (create_ac d ac ty channels preempt play_gain record_gain) = Unit {0}
IsOfRecorder (free_ac ac) = Unit {0}
IsOfRecorder (get_time d) = Unit {0}
IsOfRecorder (record_run true ac word n) = Unit {0}
IsOfRecorder _ = ⊥

-- what a link with these contexts is told of such a request, if the request is not refused, by the channels of each device
abbrev pub IsTold : (channels : ℕ → Option ℕ) → Order → (number : ℕ) → List DeviceState → List Context → Asked → List ℕ → Type 0
IsTold channels order number devices contexts (create_ac d ac ty n preempt play_gain record_gain) message =
    creation_refusal (channels d) d ty n preempt play_gain record_gain ≡ None →
    context_refusal ac (creation contexts ac) ≡ None → message ≡ reply_message order opcodes.create_ac plain number
IsTold channels order number devices contexts (free_ac ac) message =
    context_refusal ac (reference contexts ac) ≡ None → message ≡ reply_message order opcodes.free_ac plain number
IsTold channels order number devices contexts (get_time d) message = (m : ℕ) → channels d ≡ Some m →
    (device : DeviceState) × WasSo devices d device
    × (message ≡ reply_message order opcodes.get_time (time_answer (device.now % 2 ^ 32)) number)
IsTold channels order number devices contexts (record_run blocking ac word n) message = (c : Context) (m : ℕ) →
    context_of contexts ac ≡ Some c → channels c.device ≡ Some m → record_refusal m c n ≡ None →
    IsRecordAnswer order number devices c word n message
IsTold channels order number devices contexts _ message = Unit {0}

-- that it is not told of it yet
abbrev pub IsHeld : (channels : ℕ → Option ℕ) → List DeviceState → List Context → Asked → Deferral → Type 0
IsHeld channels devices contexts (record_run blocking ac word n) w = (c : Context) (m : ℕ) →
    context_of contexts ac ≡ Some c → channels c.device ≡ Some m → record_refusal m c n ≡ None → IsRecordHeld devices c word n w
IsHeld channels devices contexts _ w = ⊥

-- A link is told of requests one after another, in their order, each once, with their numbers; but not yet of the last one, if
-- that is deferred. These bytes are all that it is told.
abbrev pub AreTold : (channels : ℕ → Option ℕ) → Order → (number : ℕ) → List DeviceState → List Deferral → List Context →
    List Asked → List ℕ → Type 0
AreTold channels order number devices waiting contexts [] told = (told ≡ []) × (waiting ≡ [])
AreTold channels order number devices waiting contexts (asked ∷ more) told =
    ((message : List ℕ) × (rest : List ℕ) × (told ≡ message ++ rest)
    × IsTold channels order ((number + 1) % 2 ^ 16) devices contexts asked message
    × AreTold channels order ((number + 1) % 2 ^ 16) devices waiting (contexts_after channels contexts asked) more rest)
    ⊎ ((more ≡ []) × (told ≡ []) × (w : Deferral) × (waiting ≡ w ∷ []) × IsHeld channels devices contexts asked w)

-- A run

-- a link that was just opened: nothing was said to it, and it has made no request
pub record IsFresh (s : State) (k : ℕ) (l : LinkState) : Type 0 where
  pub new : IsNew l
  pub none_made : l.sequence ≡ 0
  pub none_selected : l.selections ≡ none_selected
  pub unsaid : (slot_at k s).said ≡ []
  pub none_waits : own_waiting k s.waiting ≡ []

-- What link k is told by the end of turns: the reply to its setup, and then what it is told of the requests that it performed,
-- which are the first of those that its client sends. No device has changed its channels.
pub record IsAnswered (k : ℕ) (s end : State) (order : Order) (requests : List Asked) : Type 0 where
  pub done : List Asked
  pub more : List Asked
  pub in_order : requests ≡ done ++ more
  pub channels : (d : ℕ) → channels_at end.devices d ≡ channels_at s.devices d
  pub setup_reply : List ℕ
  pub replies : List ℕ
  pub said : (slot_at k end).said ≡ setup_reply ++ replies
  pub told : AreTold (channels_at s.devices) order 0 end.devices (own_waiting k end.waiting) [] done replies

-- This holds of each client that only records, from where its link was opened in a run, as long as it stays open: if what its
-- link gave is the first of what the client sends.
abbrev pub IsAnsweredInRun : List DeviceSpec → Log → Type 0
IsAnsweredInRun config log =
    IfSome (end_state config log)
    (λ s. (k : ℕ) (l : LinkState) (turns : List Turn) → (slot_at k s).link ≡ Some l → IsFresh s k l → AreTurns s turns →
    All (StaysOpen k) turns → (order : Order) (requests : List Asked) → All IsWritable requests → All IsOfRecorder requests →
    BeginsWith (given_in k turns) (client_bytes order requests) → IsAnswered k s (end_of s turns) order requests)
