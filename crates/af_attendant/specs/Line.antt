-- What is heard of a telephone line, event by event.
use Rattle.std.specs.Prelude.{ℕ, ◌+◌, ◌==◌, ◌&&◌, nat_le, nat_lt, if◌then◌else◌, Bool, true, false, List, [], ◌∷◌, ◌++◌, length}
use Rattle.std.specs.Prelude.{Option, None, Some, is_some, unwrap_or}
use Rattle.af_wire.specs.declared.event.Event.{Event}
use Rattle.af_wire.specs.declared.event.EventKind.{EventKind}
use Rattle.af_wire.specs.declared.event.EventKind.TheVariants as kind
use Rattle.af_cli.specs.Digits.{all_digits, has_digit}
use Rattle.af_attendant.specs.declared.job.AttendantJob.{AttendantJob}

-- how often it has rung in a row; the digits since the last hang-up, or since the start; and the digits of a caller who has hung
-- up in this call
pub record LineState : Type 0 where
  pub rings : ℕ
  pub digits : List ℕ
  pub gone : Option (List ℕ)

abbrev pub fresh_line : LineState
fresh_line = record { rings = 0; digits = []; gone = None }

-- digits, and one that is dialed after them: 64 are kept
abbrev pub dialed : List ℕ → (code : ℕ) → List ℕ
dialed digits code = if has_digit all_digits code && nat_lt (length digits) 64 then digits ++ code ∷ [] else digits

-- a line after an event of a kind: a ring that begins is counted, up to a million; a hook that is taken off ends the row; where
-- the current stops, the caller has hung up, and what is dialed from then on is of the next one; a digit is kept
abbrev pub heard_by : EventKind → (value : ℕ) → LineState → LineState
heard_by kind.Ring value l = if value == 1 && nat_lt l.rings 1000000 then record l { rings = l.rings + 1 } else l
heard_by kind.Hook value l = if value == 1 then record l { rings = 0 } else l
heard_by kind.Current value l =
    if value == 0 then record l { digits = []; gone = Some (unwrap_or l.gone l.digits) } else l
heard_by kind.Digit value l = record l { digits = dialed l.digits value }

-- an event of another device does nothing
abbrev pub line_after : AttendantJob → Event → LineState → LineState
line_after job e l = if e.device == job.answer.device then heard_by e.kind e.value l else l

-- a call begins on a line, and is over: its digits are forgotten, and those of the next caller stay
abbrev pub in_call : LineState → LineState
in_call l = record l { rings = 0; gone = None }

abbrev pub over_call : LineState → LineState
over_call l = if is_some l.gone then l else record l { digits = [] }

-- the digits of a call
abbrev pub call_digits : LineState → List ℕ
call_digits l = unwrap_or l.gone l.digits

-- an event of a kind has a command that runs ended: a digit of the job, or the current that stops
abbrev pub ends_by : AttendantJob → EventKind → (value : ℕ) → Bool
ends_by job kind.Digit value = has_digit job.until.bytes value
ends_by job kind.Current value = job.hang_up && value == 0
ends_by job kind.Ring value = false
ends_by job kind.Hook value = false

abbrev pub asks_end : AttendantJob → Event → Bool
asks_end job e = e.device == job.answer.device && ends_by job e.kind e.value

-- an event of a kind is a ring that begins, or says that the current has stopped
abbrev pub is_ring : EventKind → (value : ℕ) → Bool
is_ring kind.Ring value = value == 1
is_ring kind.Hook value = false
is_ring kind.Current value = false
is_ring kind.Digit value = false

abbrev pub is_stop : EventKind → (value : ℕ) → Bool
is_stop kind.Ring value = false
is_stop kind.Hook value = false
is_stop kind.Current value = value == 0
is_stop kind.Digit value = false

-- with this event a caller hangs up
abbrev pub is_hang_up : AttendantJob → Event → Bool
is_hang_up job e = e.device == job.answer.device && is_stop e.kind e.value

-- a call is taken at this event, by the line after it: at the ring with the number of the job, or at one after it
abbrev pub is_taken : AttendantJob → Event → LineState → Bool
is_taken job e l = e.device == job.answer.device && is_ring e.kind e.value && nat_le job.answer.rings l.rings
