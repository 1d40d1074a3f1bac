-- A run without one of its links.
use Rattle.std.specs.Prelude.{◌==◌, ℕ, Bool, if◌then◌else◌, List, [], ◌∷◌, filter, map, not, slice_set}
use Rattle.std.specs.List.{list_any}
use Rattle.af_world.specs.declared.happening.Wake.{Wake}
use Rattle.af_world.specs.declared.happening.Wake.TheVariants.{Opened, Readable, Writable, Ticked, Line, Idle, Stop}
use Rattle.af_world.specs.declared.happening.Happening.TheVariants.{Woke, Read, Wrote, Closed, Captured, Emitted, Hooked}
use Rattle.af_world.specs.Log.{Log}
use Rattle.af_model.specs.State.{DeviceState, State, closed_slot, has_acted}
use Rattle.af_model.specs.Events.{without_waiter}

-- a wake that names link k becomes Idle
abbrev pub wake_without : ℕ → Wake → Wake
wake_without k (Opened j) = if j == k then Idle else Opened j
wake_without k (Readable j) = if j == k then Idle else Readable j
wake_without k (Writable j) = if j == k then Idle else Writable j
wake_without k (Ticked d n) = Ticked d n
wake_without k (Line d change) = Line d change
wake_without k Idle = Idle
wake_without k Stop = Stop

-- the log as if link k had never been there: its wakes are idle ones, and nothing else names it
abbrev pub without : ℕ → Log → Log
without k [] = []
without k (Woke wake ∷ log) = Woke (wake_without k wake) ∷ without k log
without k (Read j got ∷ log) = if j == k then without k log else Read j got ∷ without k log
without k (Wrote j offered took ∷ log) = if j == k then without k log else Wrote j offered took ∷ without k log
without k (Closed j why ∷ log) = if j == k then without k log else Closed j why ∷ without k log
without k (Captured d n got ∷ log) = Captured d n got ∷ without k log
without k (Emitted d sound done ∷ log) = Emitted d sound done ∷ without k log
without k (Hooked d off done ∷ log) = Hooked d off done ∷ without k log

-- the calls that are made to devices and lines
abbrev pub device_calls : Log → Log
device_calls [] = []
device_calls (Woke wake ∷ log) = device_calls log
device_calls (Read j got ∷ log) = device_calls log
device_calls (Wrote j offered took ∷ log) = device_calls log
device_calls (Closed j why ∷ log) = device_calls log
device_calls (Captured d n got ∷ log) = Captured d n got ∷ device_calls log
device_calls (Emitted d sound done ∷ log) = Emitted d sound done ∷ device_calls log
device_calls (Hooked d off done ∷ log) = Hooked d off done ∷ device_calls log

-- a device that completed no request of link k
abbrev pub device_without : ℕ → DeviceState → DeviceState
device_without k device = record device { completed = filter (λ c. not (c.link == k)) device.completed }

-- The state as if link k had never been there: it is not open, nothing was queued for it, it has no deferred request, and none of
-- its requests was deferred and completed.
abbrev pub state_without : ℕ → State → State
state_without k s = record {
  devices = map (device_without k) s.devices;
  slots = slice_set s.slots k closed_slot;
  waiting = without_waiter k s.waiting;
}

-- whether link k ever acted on one of these devices: it had a play with a frame accepted, set controls, or moved a hook
abbrev pub acted_on : ℕ → List DeviceState → Bool
acted_on k devices = list_any (has_acted k) devices
