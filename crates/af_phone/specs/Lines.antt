-- Telephone lines: their changes, the events for these, and the hook.
use Rattle.std.specs.Prelude.{ℕ, Bool, true, false, not, ◌==◌, if◌then◌else◌, Option, Some, None, List, codes, bit_and}
use Rattle.std.specs.List.{list_any}
use Rattle.af_wire.specs.declared.event.EventKind.{EventKind}
use Rattle.af_wire.specs.declared.event.EventKind.TheVariants as kind
use Rattle.af_wire.specs.Event.{detail_of}
use Rattle.af_request.specs.declared.reply.Phone.{Phone}
use Rattle.af_phone.specs.declared.line.LineChange.{LineChange}
use Rattle.af_phone.specs.declared.line.LineChange.TheVariants.{Ring, Current, Digit}

-- the sixteen digits of a telephone's keys, by their ASCII codes
abbrev pub digits : List ℕ
digits = codes "0123456789*#ABCD"

-- whether a byte is the code of a digit
abbrev pub is_digit : ℕ → Bool
is_digit code = list_any (λ digit. digit == code) digits

-- whether a change is one that a line makes: ringing and current begin and end, and what is dialled is a digit
abbrev pub is_change : LineChange → Bool
is_change (Ring on) = true
is_change (Current on) = true
is_change (Digit code) = is_digit code

-- a line on which nothing has happened yet: on the hook, silent, without current, and live
abbrev pub quiet_line : Phone
quiet_line = record { wanted_off = false; given_off = false; ringing = false; current = false; dead = false }

-- a line after a change, whether it is live or dead; a digit does not change it
abbrev pub line_after_change : LineChange → Phone → Phone
line_after_change (Ring on) line = record line { ringing = on }
line_after_change (Current on) line = record line { current = on }
line_after_change (Digit code) line = line

-- the kind of the event for a change
abbrev pub event_kind_of : LineChange → EventKind
event_kind_of (Ring on) = kind.Ring
event_kind_of (Current on) = kind.Current
event_kind_of (Digit code) = kind.Digit

-- a flag as the value of an event
abbrev pub flag_value : Bool → ℕ
flag_value on = if on then 1 else 0

-- the value of the event for a change
abbrev pub value_of : LineChange → ℕ
value_of (Ring on) = flag_value on
value_of (Current on) = flag_value on
value_of (Digit code) = code

-- a line whose hook is wanted off, or on
abbrev pub with_wanted_hook : Bool → Phone → Phone
with_wanted_hook off line = record line { wanted_off = off }

-- the wanted hook, if the actual hook is another
abbrev pub hook_between : Bool → Bool → Option Bool
hook_between true false = Some true
hook_between false true = Some false
hook_between _ _ = None

-- the wanted hook of a line, if its actual hook is another; None if the line is dead
abbrev pub hook_due : Phone → Option Bool
hook_due line = if line.dead then None else hook_between line.wanted_off line.given_off

-- a line after a call for its wanted hook: if the call failed, it is dead
abbrev pub line_after_hook : Bool → Phone → Phone
line_after_hook true line = record line { given_off = line.wanted_off }
line_after_hook false line = record line { dead = true }

-- whether a mask of events selects a kind: it has the bit of the kind
abbrev pub selects : ℕ → EventKind → Bool
selects mask kind = not (bit_and mask (detail_of kind) == 0)
