-- The outside that a script states: what its links and devices give, step by step, and how it answers the server's calls.
use Rattle.std.specs.Prelude.{◌≡◌, ℕ, ◌-◌, ◌≤◌, ◌<◌, ◌*◌, ◌^◌, min, Bool, true, false, not, IsTrue, map, List, [], ◌∷◌, ◌++◌, length, take, drop, if◌then◌else◌, ◌==◌, ◌&&◌, is_some, option_map, slice_get, slice_set, replicate}
use Rattle.std.specs.declared.option.Option.{Option}
use Rattle.std.specs.declared.option.Option.TheVariants.{None, Some}
use Rattle.af_limits.specs.Limits.{most_links, longest_tick, longest_read, longest_send}
use Rattle.af_sample.specs.declared.sample_type.SampleType.{SampleType}
use Rattle.af_sample.specs.declared.sample_type.SampleType.TheVariants.{Mu255, Alaw, Lin16, Lin32}
use Rattle.af_sample.specs.SampleTypes.{frame_bytes}
use Rattle.af_phone.specs.Lines.{is_change}
use Rattle.af_world.specs.declared.happening.Happening.{Happening}
use Rattle.af_world.specs.declared.happening.Happening.TheVariants.{Woke, Read, Wrote, Closed, Captured, Emitted, Hooked}
use Rattle.af_world.specs.declared.happening.ReadGot.{ReadGot}
use Rattle.af_world.specs.declared.happening.ReadGot.TheVariants.{Given, NotYet, Ended, Failed}
use Rattle.af_world.specs.declared.happening.Wake.{Wake}
use Rattle.af_world.specs.declared.happening.Wake.TheVariants as wake
use Rattle.af_world.specs.declared.script.DeviceSpec.{DeviceSpec}
use Rattle.af_world.specs.declared.script.Step.{Step}
use Rattle.af_world.specs.declared.script.Step.TheVariants as step
use Rattle.af_world.specs.Log.{Log}

-- The scripted client of an open link: the bytes that it has still to give; whether it ends after them; how many more bytes it
-- takes (None is every byte); and whether its next read and its next write fail.
pub record ScriptedClient : Type 0 where
  pub gives : List ℕ
  pub ends : Bool
  pub takes : Option ℕ
  pub fails_read : Bool
  pub fails_write : Bool

-- A scripted device: its sample type; what the last tick states that it captures (silence if it states nothing); and whether its
-- next capture, its next emit and the next hook call of its line fail.
pub record ScriptedDevice : Type 0 where
  pub ty : SampleType
  pub states : Option (List ℕ)
  pub fails_capture : Bool
  pub fails_emit : Bool
  pub fails_hook : Bool

-- a client for each link that is open, and a scripted device for each device
pub record Outside : Type 0 where
  pub clients : List (Option ScriptedClient)
  pub devices : List ScriptedDevice

-- the client of a link that was just opened: it has nothing to give, takes every byte, and nothing was stated of it
abbrev pub fresh_client : ScriptedClient
fresh_client = record { gives = []; ends = false; takes = None; fails_read = false; fails_write = false }

-- a device of which nothing was stated
abbrev pub scripted_of : SampleType → ScriptedDevice
scripted_of ty = record { ty = ty; states = None; fails_capture = false; fails_emit = false; fails_hook = false }

-- no link is open, and nothing was stated of the devices
abbrev pub outside_start : List DeviceSpec → Outside
outside_start config = record { clients = replicate most_links None; devices = map (λ d. scripted_of d.ty) config }

abbrev pub some_client : Option (Option ScriptedClient) → Option ScriptedClient
some_client None = None
some_client (Some client) = client

-- the client of a link, if the link is open
abbrev pub client_at : Outside → ℕ → Option ScriptedClient
client_at o k = some_client (slice_get o.clients k)

abbrev pub with_client : Outside → ℕ → Option ScriptedClient → Outside
with_client o k client = record o { clients = slice_set o.clients k client }

-- the scripted device at a number; if it does not exist, nothing was stated of it
abbrev pub some_scripted : Option ScriptedDevice → ScriptedDevice
some_scripted None = scripted_of Lin16
some_scripted (Some scripted) = scripted

abbrev pub scripted_at : Outside → ℕ → ScriptedDevice
scripted_at o d = some_scripted (slice_get o.devices d)

abbrev pub with_scripted : Outside → ℕ → ScriptedDevice → Outside
with_scripted o d scripted = record o { devices = slice_set o.devices d scripted }

-- Steps

-- a link that is open stays as it is
abbrev pub with_open_client : Outside → ℕ → Option ScriptedClient → Outside
with_open_client o k None = with_client o k (Some fresh_client)
with_open_client o k (Some client) = o

-- what is stated of a link that is not open is lost
abbrev pub with_changed_client : Outside → ℕ → (ScriptedClient → ScriptedClient) → Outside
with_changed_client o k change = with_client o k (option_map change (client_at o k))

-- these bytes are sent by a client
abbrev pub with_bytes : List ℕ → ScriptedClient → ScriptedClient
with_bytes bytes client = record client { gives = client.gives ++ bytes }

-- a client ends after what it gives
abbrev pub with_end : ScriptedClient → ScriptedClient
with_end client = record client { ends = true }

-- from now on a client takes n bytes in all, or every byte
abbrev pub with_room : Option ℕ → ScriptedClient → ScriptedClient
with_room room client = record client { takes = room }

-- the next read of a client fails
abbrev pub with_failing_read : ScriptedClient → ScriptedClient
with_failing_read client = record client { fails_read = true }

-- the next write to a client fails
abbrev pub with_failing_write : ScriptedClient → ScriptedClient
with_failing_write client = record client { fails_write = true }

-- what a step states of the client of its link
abbrev pub client_after_step : Step → ScriptedClient → ScriptedClient
client_after_step (step.Open k) client = client
client_after_step (step.Send k bytes) client = with_bytes bytes client
client_after_step (step.End k) client = with_end client
client_after_step (step.Room k room) client = with_room room client
client_after_step (step.Tick d n captured) client = client
client_after_step (step.Line d change) client = client
client_after_step (step.FailRead k) client = with_failing_read client
client_after_step (step.FailWrite k) client = with_failing_write client
client_after_step (step.FailCapture d) client = client
client_after_step (step.FailEmit d) client = client
client_after_step (step.FailHook d) client = client
client_after_step step.Idle client = client

-- the outside after a step
abbrev pub outside_after_step : Outside → Step → Outside
outside_after_step o (step.Open k) = with_open_client o k (client_at o k)
outside_after_step o (step.Send k bytes) = with_changed_client o k (with_bytes bytes)
outside_after_step o (step.End k) = with_changed_client o k with_end
outside_after_step o (step.Room k room) = with_changed_client o k (with_room room)
outside_after_step o (step.Tick d n captured) = with_scripted o d (record (scripted_at o d) { states = captured })
outside_after_step o (step.Line d change) = o
outside_after_step o (step.FailRead k) = with_changed_client o k with_failing_read
outside_after_step o (step.FailWrite k) = with_changed_client o k with_failing_write
outside_after_step o (step.FailCapture d) = with_scripted o d (record (scripted_at o d) { fails_capture = true })
outside_after_step o (step.FailEmit d) = with_scripted o d (record (scripted_at o d) { fails_emit = true })
outside_after_step o (step.FailHook d) = with_scripted o d (record (scripted_at o d) { fails_hook = true })
outside_after_step o step.Idle = o

-- the wake of a step on a link: if the link is not open, it is Idle
abbrev pub wake_where_open : Outside → ℕ → Wake → Wake
wake_where_open o k w = if is_some (client_at o k) then w else wake.Idle

-- the wake of a step; opening a link that is open wakes as Idle
abbrev pub wake_of : Outside → Step → Wake
wake_of o (step.Open k) = if is_some (client_at o k) then wake.Idle else wake.Opened k
wake_of o (step.Send k bytes) = wake_where_open o k (wake.Readable k)
wake_of o (step.End k) = wake_where_open o k (wake.Readable k)
wake_of o (step.Room k room) = wake_where_open o k (wake.Writable k)
wake_of o (step.Tick d n captured) = wake.Ticked d n
wake_of o (step.Line d change) = wake.Line d change
wake_of o (step.FailRead k) = wake.Idle
wake_of o (step.FailWrite k) = wake.Idle
wake_of o (step.FailCapture d) = wake.Idle
wake_of o (step.FailEmit d) = wake.Idle
wake_of o (step.FailHook d) = wake.Idle
wake_of o step.Idle = wake.Idle

-- how many bytes a frame of a device has
abbrev pub frame_bytes_in : Option DeviceSpec → ℕ
frame_bytes_in None = 0
frame_bytes_in (Some d) = frame_bytes d.ty d.channels

abbrev pub frame_bytes_at : List DeviceSpec → ℕ → ℕ
frame_bytes_at config d = frame_bytes_in (slice_get config d)

-- whether a device has a telephone line; one that does not exist has none
abbrev pub line_in : Option DeviceSpec → Bool
line_in None = false
line_in (Some d) = d.line

abbrev pub spec_has_line : List DeviceSpec → ℕ → Bool
spec_has_line config d = line_in (slice_get config d)

-- what a tick states as its capture has as many bytes as its frames
abbrev pub IsCapture : ℕ → Option (List ℕ) → Type 0
IsCapture size None = Unit {0}
IsCapture size (Some bytes) = length bytes ≡ size

-- a number of bytes that a link may be stated to take
abbrev pub IsRoom : Option ℕ → Type 0
IsRoom None = Unit {0}
IsRoom (Some n) = n < 2 ^ 32

-- a step that may stand in a script with these devices
abbrev pub IsStep : List DeviceSpec → Step → Type 0
IsStep config (step.Open k) = k < most_links
IsStep config (step.Send k bytes) = (k < most_links) × (1 ≤ length bytes) × (length bytes ≤ longest_send)
IsStep config (step.End k) = k < most_links
IsStep config (step.Room k room) = (k < most_links) × IsRoom room
IsStep config (step.Tick d n captured) = (d < length config) × (1 ≤ n) × (n ≤ longest_tick)
    × IsCapture (n * frame_bytes_at config d) captured
IsStep config (step.Line d change) = IsTrue (spec_has_line config d) × IsTrue (is_change change)
IsStep config (step.FailRead k) = k < most_links
IsStep config (step.FailWrite k) = k < most_links
IsStep config (step.FailCapture d) = d < length config
IsStep config (step.FailEmit d) = d < length config
IsStep config (step.FailHook d) = IsTrue (spec_has_line config d)
IsStep config step.Idle = Unit {0}

-- Answers

abbrev pub same_bytes : List ℕ → List ℕ → Bool
same_bytes [] [] = true
same_bytes [] (y ∷ ys) = false
same_bytes (x ∷ xs) [] = false
same_bytes (x ∷ xs) (y ∷ ys) = x == y && same_bytes xs ys

-- What a read gives if it does not fail: the first bytes that are left, all or 16384 of them. If none is left it is Ended or
-- NotYet, as the client ends or not.
abbrev pub client_after_give : ReadGot → List ℕ → ScriptedClient → Option ScriptedClient
client_after_give (Given bytes) [] client = None
client_after_give (Given bytes) (x ∷ xs) client =
    if same_bytes bytes (take longest_read (x ∷ xs)) then Some (record client { gives = drop longest_read (x ∷ xs) }) else None
client_after_give NotYet [] client = if client.ends then None else Some client
client_after_give NotYet (x ∷ xs) client = None
client_after_give Ended [] client = if client.ends then Some client else None
client_after_give Ended (x ∷ xs) client = None
client_after_give Failed xs client = None

-- what a read gives if it fails: no bytes are moved, and the next one does not fail
abbrev pub client_after_fault : ReadGot → ScriptedClient → Option ScriptedClient
client_after_fault (Given bytes) client = None
client_after_fault NotYet client = None
client_after_fault Ended client = None
client_after_fault Failed client = Some (record client { fails_read = false })

-- the client after a read with this answer; a read fails exactly if that is stated, and once
abbrev pub client_after_read : ReadGot → ScriptedClient → Option ScriptedClient
client_after_read got client = if client.fails_read then client_after_fault got client
    else client_after_give got client.gives client

-- how many bytes are taken of those offered: as many as there is room for
abbrev pub room_taken_of : ℕ → Option ℕ → ℕ
room_taken_of offered None = offered
room_taken_of offered (Some room) = min offered room

-- the client after a write that offered n bytes, of which these were taken; a write fails exactly if that is stated, and once,
-- and then moves no bytes
abbrev pub client_after_write : ℕ → Option (List ℕ) → ScriptedClient → Option ScriptedClient
client_after_write offered None client = if client.fails_write then Some (record client { fails_write = false }) else None
client_after_write offered (Some bytes) client =
    if not client.fails_write && (length bytes == room_taken_of offered client.takes)
    then Some (record client { takes = option_map (λ room. room - length bytes) client.takes })
    else None

-- the link after a call; one that is not open answers as if it was just opened, and stays closed
abbrev pub client_after_call : (ScriptedClient → Option ScriptedClient) → Option ScriptedClient → Option (Option ScriptedClient)
client_after_call call None = option_map (λ client. None) (call fresh_client)
client_after_call call (Some client) = option_map (λ client. Some client) (call client)

-- in each sample type the encoding of 0 is one byte, repeated
abbrev pub silent_byte : SampleType → ℕ
silent_byte Mu255 = 0xFF
silent_byte Alaw = 0xD5
silent_byte Lin16 = 0
silent_byte Lin32 = 0

-- what a device captures in n bytes: what the tick states, if that is as many, and else silence
abbrev pub captured_at : ScriptedDevice → ℕ → Option (List ℕ) → List ℕ
captured_at scripted size None = replicate size (silent_byte scripted.ty)
captured_at scripted size (Some bytes) = if length bytes == size then bytes else replicate size (silent_byte scripted.ty)

abbrev pub captured_bytes : ScriptedDevice → ℕ → List ℕ
captured_bytes scripted size = captured_at scripted size scripted.states

-- a capture fails exactly if that is stated, and once
abbrev pub outside_after_capture : Outside → ℕ → ScriptedDevice → Option (List ℕ) → Option Outside
outside_after_capture o d scripted None =
    if scripted.fails_capture then Some (with_scripted o d (record scripted { fails_capture = false })) else None
outside_after_capture o d scripted (Some bytes) =
    if not scripted.fails_capture && same_bytes bytes (captured_bytes scripted (length bytes)) then Some o else None

-- an emit fails exactly if that is stated, and once
abbrev pub outside_after_emit : Outside → ℕ → ScriptedDevice → Bool → Option Outside
outside_after_emit o d scripted false =
    if scripted.fails_emit then Some (with_scripted o d (record scripted { fails_emit = false })) else None
outside_after_emit o d scripted true = if scripted.fails_emit then None else Some o

-- a hook call fails exactly if that is stated, and once
abbrev pub outside_after_hook : Outside → ℕ → ScriptedDevice → Bool → Option Outside
outside_after_hook o d scripted false =
    if scripted.fails_hook then Some (with_scripted o d (record scripted { fails_hook = false })) else None
outside_after_hook o d scripted true = if scripted.fails_hook then None else Some o

-- the outside after a happening, if its answer is the one that the script states
abbrev pub outside_after_happening : Outside → Happening → Option Outside
outside_after_happening o (Woke w) = Some o
outside_after_happening o (Read k got) = option_map (with_client o k) (client_after_call (client_after_read got) (client_at o k))
outside_after_happening o (Wrote k offered took) =
    option_map (with_client o k) (client_after_call (client_after_write offered took) (client_at o k))
outside_after_happening o (Closed k why) = Some (with_client o k None)
outside_after_happening o (Captured d n got) = outside_after_capture o d (scripted_at o d) got
outside_after_happening o (Emitted d sound done) = outside_after_emit o d (scripted_at o d) done
outside_after_happening o (Hooked d off done) = outside_after_hook o d (scripted_at o d) done

abbrev pub then_outside : Option Outside → (Outside → Option Outside) → Option Outside
then_outside None f = None
then_outside (Some o) f = f o

-- the outside after a log between two steps, in which each answer is the one that the script states
abbrev pub outside_after_log : Outside → Log → Option Outside
outside_after_log o [] = Some o
outside_after_log o (h ∷ log) = then_outside (outside_after_happening o h) (λ o. outside_after_log o log)
