-- The times that a wait goes by: what the clock shows, the reading of a round, and how long a poll waits.
use Rattle.std.specs.Prelude.{◌≡◌, ◌⊎◌, ℕ, ◌-◌, ◌/◌, ◌≤◌, ◌<◌, nat_le, ◌||◌, Bool, false, List, [], ◌∷◌, if◌then◌else◌, Option, Some, None}
use Rattle.af_io.specs.Observed.{Appended}
use Rattle.af_backend.specs.Rounds.{longest_step, reading_after, RoundState, NoneByProgram}
use Rattle.af_lines.specs.HeldLines.{LinesState, NoLines}
use Rattle.af_live.specs.declared.waking.Step.{Step}
use Rattle.af_live.specs.declared.link_table.LinkEntry.{LinkEntry}
use Rattle.af_live.specs.LinkTable.{AreDrained}
use Rattle.af_live.specs.Polls.{LatestPoll}
use Rattle.af_live.specs.Shares.{some_cut}
use Rattle.af_live.specs.Timer.{TimerState, no_answers, whole_millis, AsksOnce}

-- the clock of a world, the last step of its readings, and all that the clock has answered, if it tells that
pub record ClockState : Type 0 where
  pub timer : TimerState
  pub step : Step
  pub answers : Option (List (Option ℕ))

abbrev pub no_step : Step
no_step = record { shown = 0; is_late = false }

-- a clock that was not asked for this world so far
abbrev pub new_clock : Option (List (Option ℕ)) → ClockState
new_clock answers = record { timer = no_answers; step = no_step; answers = answers }

-- the clock is asked once, and what it answers is what it tells
pub record Asks (old : ClockState) (answer : Option ℕ) (new : ClockState) : Type 0 where
  pub once : AsksOnce old.timer answer new.timer
  pub told : Appended old.answers (answer ∷ []) new.answers

-- The clock is asked once, and no step is made.
abbrev pub AsksClock : ClockState → ClockState → Type 0
AsksClock old new = (answer : Option ℕ) × Asks old answer new × (new.step ≡ old.step)

-- a step from what the clock showed to this reading: the server is late if the clock is further ahead by as much
abbrev pub step_to : ℕ → ℕ → Step
step_to shown nanos = record { shown = shown; is_late = nat_le longest_step (shown - nanos) }

-- A step of the readings, by what the clock shows: to that, in whole milliseconds; or, if the clock is further ahead, to 20
-- milliseconds after the reading before.
abbrev pub TakesStep : Option ℕ → ℕ → ℕ → Step → Type 0
TakesStep last shown nanos new = (nanos ≡ reading_after last (whole_millis shown)) × (new ≡ step_to shown nanos)

-- for how many nanoseconds a server that catches up stays at a reading
abbrev pub catching_up_pause : ℕ
catching_up_pause = 500000

-- A server that catches up serves its clients for half a millisecond after each step. Rounds share the reading before.
abbrev pub SharesReading : Option ℕ → ℕ → Step → ℕ → Step → Type 0
SharesReading last shown old nanos new = (last ≡ Some nanos)
    × (longest_step ≤ shown - reading_after last (whole_millis shown)) × (shown - old.shown < catching_up_pause) × (new ≡ old)

-- A round has one reading. Its first call asks the clock for it. A later call keeps to that one, and asks nothing.
abbrev pub IsReadingBy : Option ℕ → Option ℕ → ClockState → ℕ → ClockState → Type 0
IsReadingBy None last old nanos new = (shown : ℕ) × Asks old (Some shown) new
    × (TakesStep last shown nanos new.step ⊎ SharesReading last shown old.step nanos new.step)
IsReadingBy (Some taken) last old nanos new = (nanos ≡ taken) × (new ≡ old)

-- a round has a reading, or the clock gave no answer
abbrev pub ReadsBy : Option ℕ → Option ℕ → ClockState → Option ℕ → ClockState → Type 0
ReadsBy taken last old None new = Asks old None new × (new.step ≡ old.step)
ReadsBy taken last old (Some nanos) new = IsReadingBy taken last old nanos new

-- no reading was taken: the clock was not asked, or gave no answer
abbrev pub TakesNoReading : ClockState → ClockState → Type 0
TakesNoReading old new = (new ≡ old) ⊎ (Asks old None new × (new.step ≡ old.step))

-- by how many milliseconds device time is late: what the clock showed at the latest step is further on
abbrev pub late_millis : Step → Option ℕ → ℕ
late_millis step None = 0
late_millis step (Some last) = (step.shown - last) / 1000000

-- How many nanoseconds a poll waits at most. It does not wait if there is more to do, if a device ticked or a line changed in the
-- round, if the server is a whole step late, or if a link is cut.
abbrev pub pause_of : Bool → Bool → Bool → Bool → ℕ
pause_of more went_on is_late cut = if more || went_on || is_late || cut then 0 else 10000000

-- Whether what there is to do is to be done at once. It may wait where all that had come by each link was read and no device has
-- a line: then a turn leaves reads alone, which give nothing before the system tells that more has come.
abbrev pub IsUrgent : Bool → List (Option LinkEntry) → LinesState → Bool → Type 0
IsUrgent more links lines urgent = (urgent ≡ more) ⊎ ((urgent ≡ false) × AreDrained links × NoLines lines.lines)

-- Whether something may be due at once after a round: a device ticked in it, or a line changed. A tick leaves nothing due where
-- no device goes by its program, and the reading of the round is less than a millisecond older than what the clock showed.
abbrev pub HasWentOn : RoundState → LinesState → Step → Bool → Type 0
HasWentOn round lines step went_on = (went_on ≡ round.ticked || lines.changed)
    ⊎ ((went_on ≡ lines.changed) × NoneByProgram round.sources × (late_millis step round.last ≡ 0))

-- So long a poll waits at most that comes after this round.
abbrev pub PausesFor : Bool → Step → List (Option LinkEntry) → RoundState → LinesState → ℕ → Type 0
PausesFor more step links round lines nanos = (urgent : Bool) × (went_on : Bool) × IsUrgent more links lines urgent
    × HasWentOn round lines step went_on × (nanos ≡ pause_of urgent went_on step.is_late (some_cut links))

-- The poll of a wait, if it polls, waits for such a pause at most: 10 milliseconds, or not at all.
abbrev pub PausesBy : Bool → Bool → List (Option LinkEntry) → LinesState → LatestPoll → LatestPoll → Type 0
PausesBy more is_late links lines old new = (new ≡ old)
    ⊎ ((urgent : Bool) × (went_on : Bool) × IsUrgent more links lines urgent
    × (new.pause ≡ pause_of urgent went_on is_late (some_cut links)))
