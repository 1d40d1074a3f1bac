-- The lines that are written for events.
use Rattle.std.specs.Prelude.{ℕ, ◌==◌, ◌&&◌, nat_le, not, if◌then◌else◌, Bool, true, List, [], ◌∷◌, ◌++◌, codes, decimal}
use Rattle.std.specs.List.{flat_map}
use Rattle.af_wire.specs.declared.event.Event.{Event}
use Rattle.af_wire.specs.declared.event.EventKind.{EventKind}
use Rattle.af_wire.specs.declared.event.EventKind.TheVariants as kind
use Rattle.af_cli.specs.declared.events.DeviceChoice.{DeviceChoice}
use Rattle.af_cli.specs.declared.events.DeviceChoice.TheVariants as choice
use Rattle.af_cli.specs.Events.{has_kind, kind_name}
use Rattle.af_events.specs.declared.job.EventsJob.{EventsJob}

abbrev pub flag_text : Bool → List ℕ
flag_text on = if on then codes "on" else codes "off"

-- a digit by its ASCII code; a code that is no visible character is a number after `\`, which is 92
abbrev pub digit_text : ℕ → List ℕ
digit_text code = if nat_le 33 code && nat_le code 126 then code ∷ [] else 92 ∷ decimal code

-- what an event says: the hook is off where its value is 1
abbrev pub value_text : EventKind → ℕ → List ℕ
value_text kind.Ring value = flag_text (value == 1)
value_text kind.Current value = flag_text (value == 1)
value_text kind.Hook value = flag_text (not (value == 1))
value_text kind.Digit value = digit_text value

-- the line of an event: its time, its device, its kind, and what it says
unfoldable pub event_line : Event → List ℕ
event_line e =
    decimal e.time.0 ++ codes " " ++ decimal e.device ++ codes " " ++ kind_name e.kind ++ codes " " ++ value_text e.kind e.value
    ++ codes "\n"

-- a device is among those that are asked for
abbrev pub has_device : DeviceChoice → ℕ → Bool
has_device (choice.One device) number = number == device
has_device choice.All number = true

-- an event is among those that are asked for
abbrev pub is_asked : EventsJob → Event → Bool
is_asked job e = has_device job.devices e.device && has_kind job.kinds e.kind

-- what is written for an event: its line if it is asked for, and else nothing
unfoldable pub line_for : EventsJob → Event → List ℕ
line_for job e = if is_asked job e then event_line e else []

-- what is written for events, one after another
abbrev pub lines_for : EventsJob → List Event → List ℕ
lines_for job events = flat_map (line_for job) events
