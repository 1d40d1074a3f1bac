-- The state of the abstract server: its devices, its links, what was ever queued for each link, and the deferred requests.
use Rattle.std.specs.Prelude.{ℕ, ◌+◌, ◌^◌, ◌==◌, ℤ, pos, Bool, true, false, if◌then◌else◌, List, [], ◌++◌, map, replicate, slice_get, slice_set, is_some}
use Rattle.std.specs.List.{list_any}
use Rattle.std.specs.declared.option.Option.{Option}
use Rattle.std.specs.declared.option.Option.TheVariants.{None, Some}
use Rattle.af_limits.specs.Limits.{most_links, most_devices}
use Rattle.af_sample.specs.declared.sample_type.SampleType.{SampleType}
use Rattle.af_sample.specs.Heard.{AcceptedPlay}
use Rattle.af_context.specs.declared.Context.{Context}
use Rattle.af_wire.specs.declared.order.Order.{Order}
use Rattle.af_wire.specs.declared.order.Order.TheVariants.{Big}
use Rattle.af_request.specs.declared.reply.Controls.{Controls}
use Rattle.af_request.specs.declared.reply.Phone.{Phone}
use Rattle.af_phone.specs.Lines.{quiet_line}
use Rattle.af_world.specs.declared.happening.Why.{Why}
use Rattle.af_world.specs.declared.script.DeviceSpec.{DeviceSpec}

-- A deferred request: a play, whose sound has the gain that its context had, and which is replied to unless it is quiet; or a
-- record, with its context as it was. Starts are whole times.
pub data Deferred : Type 0 where
  deferred_play : (quiet : Bool) (start : ℕ) (sound : List ℤ) (preempt : Bool) → Deferred
  deferred_record : (context : Context) (start frames : ℕ) → Deferred

-- a link with a deferred request, and the device whose time it waits for
pub record Deferral : Type 0 where
  pub link : ℕ
  pub device : ℕ
  pub deferred : Deferred

-- a request that was deferred, and the device's time when it was completed
pub record Completion : Type 0 where
  pub link : ℕ
  pub deferred : Deferred
  pub at : ℕ

-- A device. Its time is unbounded, and begins 2^32 above the stated start, so that times before the start are natural numbers
-- too: only differences of times, and times modulo 2^32, are ever seen.
-- What was accepted, captured and completed is history: all plays in the order of their acceptance, the samples of all frames
-- since the begin, and all requests that were deferred. So are its actors: the numbers of the links that had a play with a frame
-- accepted, set its controls, or moved its hook, in that order. All of it stays when the link is closed. Its controls act on what
-- it captures and hands out. Its line, if it has one, has flags of its own. A device is dead once a capture or an emit of it has
-- failed.
pub record DeviceState : Type 0 where
  pub ty : SampleType
  pub channels : ℕ
  pub rate : ℕ
  pub begin : ℕ
  pub now : ℕ
  pub accepted : List AcceptedPlay
  pub actors : List ℕ
  pub captured : List ℤ
  pub completed : List Completion
  pub controls : Controls
  pub line : Option Phone
  pub is_dead : Bool

-- whether link k acted on a device
abbrev pub has_acted : ℕ → DeviceState → Bool
has_acted k device = list_any (λ j. j == k) device.actors

-- An open link: whether it is set up; its byte order, which is Big before its setup; its unread input; its unsent output; whether
-- it may have something to read; whether it is blocked, as its last write took less than was offered; why it is to be closed; how
-- many requests it has made, modulo 2^16; its contexts in order of creation; and for each device number the mask of the events
-- that it selects.
pub record LinkState : Type 0 where
  pub is_set_up : Bool
  pub order : Order
  pub rest : List ℕ
  pub pending : List ℕ
  pub is_ready : Bool
  pub is_stuck : Bool
  pub closing : Option Why
  pub sequence : ℕ
  pub contexts : List Context
  pub selections : List ℕ

-- A slot for a link, open or not. What was said is history: all that was appended to the link's output since it was last opened.
-- It stays after a close.
pub record SlotState : Type 0 where
  pub link : Option LinkState
  pub said : List ℕ

-- The deferred requests, the longest deferred first. A link has one at most.
pub record State : Type 0 where
  pub devices : List DeviceState
  pub slots : List SlotState
  pub waiting : List Deferral

-- The environment of a link: what all links share, and the link's own history.
pub record EnvironmentState : Type 0 where
  pub devices : List DeviceState
  pub waiting : List Deferral
  pub said : List ℕ

-- an open link with its environment
pub record OpenLink : Type 0 where
  pub environment : EnvironmentState
  pub link : LinkState

abbrev pub open_link : EnvironmentState → LinkState → OpenLink
open_link a l = record { environment = a; link = l }

-- Bytes are appended to a link's output, and to what was said. Nothing else changes either.
abbrev pub say : OpenLink → List ℕ → OpenLink
say p bytes =
    open_link (record p.environment { said = p.environment.said ++ bytes }) (record p.link { pending = p.link.pending ++ bytes })

-- the devices, with the one at a number changed
abbrev pub device_set : ℕ → (DeviceState → DeviceState) → List DeviceState → Option DeviceState → List DeviceState
device_set d f devices None = devices
device_set d f devices (Some device) = slice_set devices d (f device)

abbrev pub with_device : ℕ → (DeviceState → DeviceState) → List DeviceState → List DeviceState
with_device d f devices = device_set d f devices (slice_get devices d)

-- no event of any device is selected
abbrev pub none_selected : List ℕ
none_selected = replicate most_devices 0

-- a link that was just opened
abbrev pub new_link_state : LinkState
new_link_state =
    record {
      is_set_up = false;
      order = Big;
      rest = [];
      pending = [];
      is_ready = false;
      is_stuck = false;
      closing = None;
      sequence = 0;
      contexts = [];
      selections = none_selected;
    }

-- a link that is to be closed, for its first cause; nothing more of its input is read, and no event is queued for it
abbrev pub closing_link : Why → LinkState → LinkState
closing_link cause l = record l { rest = []; closing = Some cause; selections = none_selected }

-- input and output are on, and both gains 0
abbrev pub opening_controls : Controls
opening_controls = record { input_on = true; output_on = true; input_gain = pos 0; output_gain = pos 0 }

-- the line of a device that has one is quiet
abbrev pub opening_line : Bool → Option Phone
opening_line has_line = if has_line then Some quiet_line else None

-- a device at its start
abbrev pub opening_device : DeviceSpec → DeviceState
opening_device d = record {
  ty = d.ty;
  channels = d.channels;
  rate = d.rate;
  begin = d.start + 2 ^ 32;
  now = d.start + 2 ^ 32;
  accepted = [];
  actors = [];
  captured = [];
  completed = [];
  controls = opening_controls;
  line = opening_line d.line;
  is_dead = false;
}

abbrev pub closed_slot : SlotState
closed_slot = record { link = None; said = [] }

-- no link is open, and each device is at its start
abbrev pub opening_state : List DeviceSpec → State
opening_state config = record { devices = map opening_device config; slots = replicate most_links closed_slot; waiting = [] }

-- the slot of a link's number
abbrev pub some_slot : Option SlotState → SlotState
some_slot None = closed_slot
some_slot (Some slot) = slot

abbrev pub slot_at : ℕ → State → SlotState
slot_at k s = some_slot (slice_get s.slots k)

abbrev pub with_slot : ℕ → SlotState → State → State
with_slot k slot s = record s { slots = slice_set s.slots k slot }

-- the environment of a slot, and the link that is open there
pub record SlotLink : Type 0 where
  pub environment : EnvironmentState
  pub link : Option LinkState

abbrev pub link_in_slot : EnvironmentState → Option LinkState → SlotLink
link_in_slot a link = record { environment = a; link = link }

abbrev pub slot_link_at : ℕ → State → SlotLink
slot_link_at k s = link_in_slot (record { devices = s.devices; waiting = s.waiting; said = (slot_at k s).said })
    (slot_at k s).link

abbrev pub with_slot_link : ℕ → State → SlotLink → State
with_slot_link k s d =
    with_slot k (record { link = d.link; said = d.environment.said })
    (record s { devices = d.environment.devices; waiting = d.environment.waiting })

-- the links at their numbers
abbrev pub links_of : List SlotState → List (Option LinkState)
links_of slots = map (λ slot. slot.link) slots

-- whether each device has a line
abbrev pub lines_of : List DeviceState → List Bool
lines_of devices = map (λ device. is_some device.line) devices

-- What decides whether a wake may come: which devices exist, each with a line or not, and which links are open.
pub record Outline : Type 0 where
  pub lines : List Bool
  pub links : List Bool

abbrev pub outline_with : List Bool → List (Option LinkState) → Outline
outline_with lines links = record { lines = lines; links = map is_some links }

abbrev pub outline : State → Outline
outline s = outline_with (lines_of s.devices) (links_of s.slots)
