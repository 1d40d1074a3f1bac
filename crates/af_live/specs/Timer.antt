-- The clock of a world, and what it showed.
use Rattle.std.specs.Prelude.{◌≡◌, ℕ, ◌-◌, ◌%◌, ◌^◌, nat_lt, if◌then◌else◌, Bool, List, map, take, Option, Some, None}
use Rattle.std.specs.declared.time.Duration.{Duration}
use Rattle.std.specs.Duration.{as_nanos}
use Rattle.af_io.specs.Observed.{next_count}

-- what a clock shows, in nanoseconds, rounded down to whole milliseconds
abbrev pub whole_millis : ℕ → ℕ
whole_millis nanos = nanos - nanos % 1000000

-- a moment by a clock that showed this last, and zero if it could not be read
abbrev pub moment_of : Option ℕ → ℕ
moment_of None = 0
moment_of (Some shown) = whole_millis shown

-- a time in nanoseconds, if these are fewer than 2^64
abbrev pub nanos_of : Duration → Option ℕ
nanos_of time = if nat_lt (as_nanos time) (2 ^ 64) then Some (as_nanos time) else None

-- what a clock showed, if it could be read
abbrev pub shown_nanos : Option Duration → Option ℕ
shown_nanos None = None
shown_nanos (Some time) = nanos_of time

-- a clock: how often it was asked, and its latest answer in nanoseconds, if it had one
pub record TimerState : Type 0 where
  pub asked : ℕ
  pub shown : Option ℕ

-- a clock that was not asked so far
abbrev pub no_answers : TimerState
no_answers = record { asked = 0; shown = None }

-- the clock is asked once, and gives this answer
abbrev pub AsksOnce : TimerState → Option ℕ → TimerState → Type 0
AsksOnce old answer new = new ≡ record { asked = next_count old.asked; shown = answer }

-- a clock in memory: its readings, how many of them it has shown, and whether it was asked after the last
pub record ClockOfReadings : Type 0 where
  pub readings : List (Option Duration)
  pub asked : ℕ
  pub is_over : Bool

-- it has shown so many of its readings, if it was not asked after the last
abbrev pub answers_of : ClockOfReadings → Option (List (Option ℕ))
answers_of c = if c.is_over then None else Some (map shown_nanos (take c.asked c.readings))
