-- The telephone lines of a world, each at the number of its device, and a round over them.
use Rattle.std.specs.Prelude.{◌≡◌, ℕ, ◌+◌, ◌≤◌, ◌<◌, max, Bool, true, false, if◌then◌else◌, List, map, replicate, slice_index_or, slice_set, option_map}
use Rattle.std.specs.declared.option.Option.{Option}
use Rattle.std.specs.declared.option.Option.TheVariants.{None, Some}
use Rattle.af_limits.specs.Limits.{most_devices}
use Rattle.af_io.specs.declared.flow.Put.{Put}
use Rattle.af_io.specs.declared.flow.Put.TheVariants as put
use Rattle.af_phone.specs.declared.line.LineChange.{LineChange}
use Rattle.af_world.specs.declared.live.Ready.{Ready}
use Rattle.af_world.specs.declared.live.Ready.TheVariants as ready
use Rattle.af_lines.specs.ExchangeUse.{ExchangeUse, IsBegun, AsksExchange, CallsExchange, exchange_orders}

-- a line has no program and never rings, or a program is its exchange
pub data LineState : Type 0 where
  quiet : LineState
  over : ExchangeUse → LineState

abbrev pub line_state : Option ExchangeUse → LineState
line_state None = quiet
line_state (Some e) = over e

-- the lines of the devices that have one; the device that the round comes to next; and whether a line changed in it
pub record LinesState : Type 0 where
  pub lines : List (Option LineState)
  pub next : ℕ
  pub changed : Bool

-- the lines before any device is attached
abbrev pub no_lines : LinesState
no_lines = record { lines = replicate most_devices None; next = 0; changed = false }

-- the line of the device with a number, if it has one
abbrev pub line_at : List (Option LineState) → ℕ → Option LineState
line_at lines d = slice_index_or lines d None

-- no device has a line
abbrev pub NoLines : List (Option LineState) → Type 0
NoLines lines = (d : ℕ) → line_at lines d ≡ None

-- whether it has no program
abbrev pub is_quiet : Option LineState → Bool
is_quiet None = false
is_quiet (Some quiet) = true
is_quiet (Some (over e)) = false

-- whether a program is its exchange
abbrev pub has_exchange : Option LineState → Bool
has_exchange None = false
has_exchange (Some quiet) = false
has_exchange (Some (over e)) = true

-- the program that is its exchange, if it has one
abbrev pub exchange_of : Option LineState → Option ExchangeUse
exchange_of None = None
exchange_of (Some quiet) = None
exchange_of (Some (over e)) = Some e

-- no line from this number on has a program
abbrev pub NoneFrom : ℕ → List (Option LineState) → Type 0
NoneFrom end lines = (d : ℕ) → end ≤ d → has_exchange (line_at lines d) ≡ false

-- a new round begins
abbrev pub lines_at_round_start : LinesState → LinesState
lines_at_round_start l = record l { next = 0; changed = false }

-- which lines exist, and the orders of their programs, whatever went by
abbrev pub line_orders : LineState → LineState
line_orders quiet = quiet
line_orders (over e) = over (exchange_orders e)

unfoldable pub all_line_orders : List (Option LineState) → List (Option LineState)
all_line_orders lines = map (option_map line_orders) lines

-- Attaches

-- a device that was attached has a quiet line, or none
abbrev pub lines_after : Ready → ℕ → Bool → LinesState → LinesState
lines_after ready.Done d has_line l = record l { lines = slice_set l.lines d (if has_line then Some quiet else None) }
lines_after ready.Failed d has_line l = l
lines_after ready.OutOfMemory d has_line l = l

-- a program became the exchange of a device's line, was started at this moment, and runs
abbrev pub AttachesLine : Ready → ℕ → List (List ℕ) → ℕ → ℕ → LinesState → LinesState → Type 0
AttachesLine ready.Done restarts words at d old new =
    (e : ExchangeUse) × IsBegun restarts words at e × (new ≡ record old { lines = slice_set old.lines d (Some (over e)) })
AttachesLine ready.Failed restarts words at d old new = new ≡ old
AttachesLine ready.OutOfMemory restarts words at d old new = new ≡ old

-- Changes

-- A line is asked for its next change. One without a program has none.
abbrev pub IsAskedOf : ℕ → Option LineChange → Option LineState → Option LineState → Type 0
IsAskedOf at change None l' = (change ≡ None) × (l' ≡ None)
IsAskedOf at change (Some quiet) l' = (change ≡ None) × (l' ≡ Some quiet)
IsAskedOf at change (Some (over e)) l' = (e' : ExchangeUse) × AsksExchange at change e e' × (l' ≡ Some (over e'))

-- each line between two was asked, and has no change; no other is changed
pub record LinesAsked (at from to : ℕ) (old new : List (Option LineState)) : Type 0 where
  pub inside : (d : ℕ) → d < to → from ≤ d → IsAskedOf at None (line_at old d) (line_at new d)
  pub below : (d : ℕ) → d < from → line_at new d ≡ line_at old d
  pub above : (d : ℕ) → to ≤ d → line_at new d ≡ line_at old d

-- each line before one was asked, and has no change; this line gives one; no other is changed
pub record LineChanges (at from d : ℕ) (change : LineChange) (old new : List (Option LineState)) : Type 0 where
  pub on : from ≤ d
  pub passed : (k : ℕ) → k < d → from ≤ k → IsAskedOf at None (line_at old k) (line_at new k)
  pub changes : IsAskedOf at (Some change) (line_at old d) (line_at new d)
  pub below : (k : ℕ) → k < from → line_at new k ≡ line_at old k
  pub above : (k : ℕ) → d < k → line_at new k ≡ line_at old k

-- the first line, from one on and before another, that gives a change
abbrev pub AsksUpTo : ℕ → ℕ → ℕ → List (Option LineState) → Option (ℕ × LineChange) → List (Option LineState) → Type 0
AsksUpTo at from to old None new = LinesAsked at from (max from to) old new
AsksUpTo at from to old (Some (d, change)) new = (d < to) × LineChanges at from d change old new

-- The round goes on, in the order of numbers, to the next line that gives a change, or past the last. Each that it comes to is
-- asked.
abbrev pub GoesOverLines : ℕ → LinesState → Option (ℕ × LineChange) → LinesState → Type 0
GoesOverLines at old None new =
    LinesAsked at old.next most_devices old.lines new.lines × (new.next ≡ most_devices) × (new.changed ≡ old.changed)
GoesOverLines at old (Some (d, change)) new =
    (d < most_devices) × LineChanges at old.next d change old.lines new.lines × (new.next ≡ d + 1) × (new.changed ≡ true)

-- Hook calls

-- A line hands a hook call to its program. A line without one accepts every call.
abbrev pub HooksBy : Bool → Put → Option LineState → Option LineState → Type 0
HooksBy off answer None l' = (answer ≡ put.Done) × (l' ≡ None)
HooksBy off answer (Some quiet) l' = (answer ≡ put.Done) × (l' ≡ Some quiet)
HooksBy off answer (Some (over e)) l' = (e' : ExchangeUse) × CallsExchange off answer e e' × (l' ≡ Some (over e'))

-- the line of a device takes a hook call, and no other is changed
abbrev pub HooksLine : ℕ → Bool → Put → List (Option LineState) → List (Option LineState) → Type 0
HooksLine d off answer old new = (after : Option LineState) × HooksBy off answer (line_at old d) after
    × (new ≡ slice_set old d after)

-- and the round stays at its place
abbrev pub HooksAt : ℕ → Bool → Put → LinesState → LinesState → Type 0
HooksAt d off answer old new = HooksLine d off answer old.lines new.lines × (new.next ≡ old.next) × (new.changed ≡ old.changed)
