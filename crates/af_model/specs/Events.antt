-- Events are queued for the links that select them, and links are dropped.
use Rattle.std.specs.Prelude.{ℕ, zero, suc, ◌+◌, ◌%◌, ◌^◌, ◌==◌, nat_le, not, Bool, true, false, List, [], length, filter, if◌then◌else◌, option_map, slice_get}
use Rattle.std.specs.declared.option.Option.{Option}
use Rattle.std.specs.declared.option.Option.TheVariants.{None, Some}
use Rattle.af_limits.specs.Limits.{event_limit}
use Rattle.af_wire.specs.declared.event.Event.{Event}
use Rattle.af_wire.specs.declared.event.EventKind.{EventKind}
use Rattle.af_wire.specs.declared.event.EventKind.TheVariants as kind
use Rattle.af_wire.specs.Event.{event_bytes}
use Rattle.af_request.specs.declared.reply.Phone.{Phone}
use Rattle.af_phone.specs.declared.line.LineChange.{LineChange}
use Rattle.af_phone.specs.Lines.{line_after_change, flag_value, line_after_hook, event_kind_of, selects, value_of}
use Rattle.af_world.specs.declared.happening.Why.{Why}
use Rattle.af_world.specs.declared.happening.Why.TheVariants as why
use Rattle.af_model.specs.State.{DeviceState, LinkState, State, Deferral, EnvironmentState, OpenLink, SlotLink, open_link, link_in_slot, slot_link_at, with_slot_link, with_device, none_selected, say}
use Rattle.af_model.specs.Tick.{enter}

-- the deferred requests, without that of a link
abbrev pub without_waiter : ℕ → List Deferral → List Deferral
without_waiter k waiting = filter (λ w. not (w.link == k)) waiting

-- Link k is dropped: it is to be closed, nothing of it is read or sent any more, no event is queued for it, and it has no
-- deferred request. What it had accepted stays.
abbrev pub drop_link : ℕ → Why → OpenLink → OpenLink
drop_link k cause p = open_link (record p.environment { waiting = without_waiter k p.environment.waiting })
    (record p.link { rest = []; pending = []; closing = Some cause; selections = none_selected })

-- the mask of the events of a device that a link selects
abbrev pub some_mask : Option ℕ → ℕ
some_mask None = 0
some_mask (Some mask) = mask

abbrev pub mask_of : LinkState → ℕ → ℕ
mask_of l d = some_mask (slice_get l.selections d)

-- an event that link k selects is queued for it; if more than 49152 bytes would then wait to be sent to it, it is dropped
abbrev pub tell_selected : ℕ → Event → OpenLink → OpenLink
tell_selected k e p =
    if nat_le (length p.link.pending + 20) event_limit then say p (event_bytes p.link.order e p.link.sequence)
    else drop_link k why.Overrun p

abbrev pub tell_link : ℕ → Event → OpenLink → OpenLink
tell_link k e p = if selects (mask_of p.link e.device) e.kind then tell_selected k e p else p

abbrev pub tell_open : ℕ → Event → EnvironmentState → Option LinkState → SlotLink
tell_open k e a None = link_in_slot a None
tell_open k e a (Some l) = enter (tell_link k e (open_link a l))

abbrev pub tell_at : ℕ → Event → State → State
tell_at k e s = with_slot_link k s (tell_open k e (slot_link_at k s).environment (slot_link_at k s).link)

-- n links from number k on
abbrev pub tell_from : ℕ → ℕ → Event → State → State
tell_from zero k e s = s
tell_from (suc n) k e s = tell_from n (k + 1) e (tell_at k e s)

-- all links, in the order of their numbers
unfoldable pub tell : Event → State → State
tell e s = tell_from (length s.slots) 0 e s

-- an event of a device's line, at the device's time
abbrev pub event_at : EventKind → ℕ → DeviceState → ℕ → Event
event_at kind d device value = record { kind = kind; device = d; time = record { 0 = device.now % 2 ^ 32 }; value = value }

-- the line of device d becomes another, and an event reports it
abbrev pub line_becomes : (Phone → Phone) → EventKind → ℕ → ℕ → DeviceState → State → State
line_becomes f kind value d device s =
    tell (event_at kind d device value)
    (record s { devices = with_device d (λ device. record device { line = option_map f device.line }) s.devices })

-- the line of a device changes
abbrev pub line_changes : LineChange → ℕ → DeviceState → State → State
line_changes change d device s = line_becomes (line_after_change change) (event_kind_of change) (value_of change) d device s

-- a hook call moved the hook of a device's line to the wanted position, off or on, and an event reports it; or the call failed,
-- and the line is dead
abbrev pub after_hook : Bool → ℕ → DeviceState → State → State
after_hook off d device s = line_becomes (line_after_hook true) kind.Hook (flag_value off) d device s

abbrev pub after_hook_failure : ℕ → State → State
after_hook_failure d s =
    record s {
      devices = with_device d (λ device. record device { line = option_map (line_after_hook false) device.line })
          s.devices;
    }
