-- Events of telephone lines: how they are spelled, and which messages are events.
use Rattle.std.specs.Prelude.{ℕ, ◌<◌, ◌^◌, IsTrue, Bool, true, ◌==◌, ◌&&◌, nat_le, nat_lt, if◌then◌else◌, List, [], ◌∷◌, ◌++◌, Option, Some, None}
use Rattle.af_limits.specs.Limits.{most_devices}
use Rattle.af_wire.specs.declared.order.Order.{Order}
use Rattle.af_wire.specs.declared.event.Event.{Event}
use Rattle.af_wire.specs.declared.event.EventKind.{EventKind}
use Rattle.af_wire.specs.declared.event.EventKind.TheVariants as kind
use Rattle.af_wire.specs.Message.{head}
use Rattle.af_wire.specs.Order.{u32_bytes, u32_of}

-- the detail of an event's message, which is also its bit in the mask of the events that a client selects
abbrev pub detail_of : EventKind → ℕ
detail_of kind.Ring = 1
detail_of kind.Hook = 2
detail_of kind.Current = 4
detail_of kind.Digit = 8

-- the kind of event for a detail, if it has one
abbrev pub kind_of_code : ℕ → Option EventKind
kind_of_code code =
    if code == 1 then Some kind.Ring
    else if code == 2 then Some kind.Hook
    else if code == 4 then Some kind.Current
    else if code == 8 then Some kind.Digit
    else None

-- the value of a digit is free; that of any other event is a flag
abbrev pub is_value : EventKind → ℕ → Bool
is_value kind.Digit value = true
is_value _ value = nat_le value 1

-- how an event is spelled, with the number of the last request that was performed or begun
unfoldable pub event_bytes : Order → Event → ℕ → List ℕ
event_bytes order e sequence =
    head order 2 (detail_of e.kind) sequence 3
    ++ (u32_bytes order e.device ++ u32_bytes order e.time.0 ++ u32_bytes order e.value)

-- an event of a kind, if its device is one that a server may have, and its value one of its kind
abbrev pub event_from : Option EventKind → ℕ → ℕ → ℕ → Option Event
event_from (Some kind) device time value =
    if nat_lt device most_devices && is_value kind value
    then Some (record { kind = kind; device = device; time = record { 0 = time }; value = value })
    else None
event_from None device time value = None

-- the event that a detail and a body state, if they state one
abbrev pub event_in : Order → ℕ → List ℕ → Option Event
event_in order detail (d0 ∷ d1 ∷ d2 ∷ d3 ∷ t0 ∷ t1 ∷ t2 ∷ t3 ∷ v0 ∷ v1 ∷ v2 ∷ v3 ∷ []) =
    event_from (kind_of_code detail) (u32_of order (d0 ∷ d1 ∷ d2 ∷ d3 ∷ [])) (u32_of order (t0 ∷ t1 ∷ t2 ∷ t3 ∷ []))
    (u32_of order (v0 ∷ v1 ∷ v2 ∷ v3 ∷ []))
event_in order detail _ = None

-- an event as a message may state it
pub record IsEvent (e : Event) : Type 0 where
  pub device : e.device < most_devices
  pub time : e.time.0 < 2 ^ 32
  pub value : e.value < 2 ^ 32
  pub fits : IsTrue (is_value e.kind e.value)
