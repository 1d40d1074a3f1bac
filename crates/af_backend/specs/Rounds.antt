-- Rounds over devices. Each device goes by a clock.
use Rattle.std.specs.Prelude.{◌≡◌, ⊤, ℕ, ◌+◌, ◌≤◌, ◌<◌, max, min, Bool, true, false, List, replicate, slice_index_or, slice_set, option_map, is_some, Option, Some, None}
use Rattle.af_limits.specs.Limits.{most_devices, longest_tick}
use Rattle.af_clock.specs.Pacing.{PaceState, due_at, after_due}
use Rattle.af_backend.specs.declared.source.Source.{Source}
use Rattle.af_backend.specs.declared.source.Source.TheVariants as source

-- The clock of each attached device; the device that the round comes to next; whether one ticked in it; the reading of the
-- system's clock that it goes by, once it has come to a device; and the last reading that this or an earlier round went by.
pub record RoundState : Type 0 where
  pub sources : List (Option Source)
  pub next : ℕ
  pub ticked : Bool
  pub reading : Option ℕ
  pub last : Option ℕ

-- a round's reading is at most this many nanoseconds after that of the round before: 20 milliseconds
abbrev pub longest_step : ℕ
longest_step = 20000000

-- The reading of a round, by what the clock shows. A server that stood still catches up in steps.
abbrev pub reading_after : Option ℕ → ℕ → ℕ
reading_after None shown = shown
reading_after (Some last) shown = min shown (last + longest_step)

-- no device is attached
abbrev pub new_round : RoundState
new_round = record { sources = replicate most_devices None; next = 0; ticked = false; reading = None; last = None }

-- the clock of the device with a number, if it is attached
abbrev pub source_in : List (Option Source) → ℕ → Option Source
source_in sources d = slice_index_or sources d None

abbrev pub source_at : RoundState → ℕ → Option Source
source_at r d = source_in r.sources d

-- whether a device is attached
abbrev pub is_attached : RoundState → ℕ → Bool
is_attached r d = is_some (source_at r d)

-- whether a device goes by its program
abbrev pub goes_by_program : Option Source → Bool
goes_by_program None = false
goes_by_program (Some (source.Clock pace)) = false
goes_by_program (Some source.Program) = true

-- a device is attached, and goes by this clock
abbrev pub round_with : RoundState → ℕ → Source → RoundState
round_with r d s = record r { sources = slice_set r.sources d (Some s) }

-- a new round begins, and the last reading stays
abbrev pub next_round : RoundState → RoundState
next_round r = record r { next = 0; ticked = false; reading = None }

-- the frames of a device that are due at a reading of the system's clock; a device that goes by its program has none
abbrev pub due_of : ℕ → Option Source → ℕ
due_of nanos None = 0
due_of nanos (Some (source.Clock pace)) = due_at pace nanos
due_of nanos (Some source.Program) = 0

-- its clock after that reading
abbrev pub source_after : ℕ → Source → Source
source_after nanos (source.Clock pace) = source.Clock (after_due pace nanos)
source_after nanos source.Program = source.Program

abbrev pub some_source_after : ℕ → Option Source → Option Source
some_source_after nanos = option_map (source_after nanos)

-- So many frames of a device are due: those of its pace. For a device that goes by a program, its backend says how many.
abbrev pub IsDue : ℕ → Option Source → ℕ → Type 0
IsDue nanos None n = n ≡ 0
IsDue nanos (Some (source.Clock pace)) n = n ≡ due_at pace nanos
IsDue nanos (Some source.Program) n = ⊤

-- a device ticks by at most so many frames
abbrev pub TicksWithin : ℕ → Option Source → Type 0
TicksWithin most None = ⊤
TicksWithin most (Some (source.Clock pace)) = pace.most ≤ most
TicksWithin most (Some source.Program) = longest_tick ≤ most

-- the clock of each device between two was read, and no other
pub record SourcesRead (nanos from to : ℕ) (old new : List (Option Source)) : Type 0 where
  pub inside : (d : ℕ) → d < to → from ≤ d → source_in new d ≡ some_source_after nanos (source_in old d)
  pub below : (d : ℕ) → d < from → source_in new d ≡ source_in old d
  pub above : (d : ℕ) → to ≤ d → source_in new d ≡ source_in old d

-- by the system's clock no device between two has a frame due
abbrev pub NoneDue : ℕ → ℕ → ℕ → List (Option Source) → Type 0
NoneDue nanos from to sources = (d : ℕ) → d < to → from ≤ d → due_of nanos (source_in sources d) ≡ 0

-- The first device with frames due, at most 4096 of them, from one on and before another. The clocks of the devices up to it were
-- read, or all if there is none.
abbrev pub FindsDue : ℕ → ℕ → ℕ → List (Option Source) → Option (ℕ × ℕ) → List (Option Source) → Type 0
FindsDue nanos from to old None new = NoneDue nanos from (max from to) old × SourcesRead nanos from (max from to) old new
FindsDue nanos from to old (Some (d, n)) new =
    (from ≤ d) × (d < to) × NoneDue nanos from d old × IsDue nanos (source_in old d) n × (due_of nanos (source_in old d) ≤ n)
    × (1 ≤ n) × (n ≤ longest_tick) × SourcesRead nanos from (d + 1) old new

-- no device from this number on is attached
abbrev pub NoneFrom : ℕ → List (Option Source) → Type 0
NoneFrom end sources = (d : ℕ) → end ≤ d → source_in sources d ≡ None

-- no device goes by its program
abbrev pub NoneByProgram : List (Option Source) → Type 0
NoneByProgram sources = (d : ℕ) → goes_by_program (source_in sources d) ≡ false

-- every clock was read at this reading, and nothing is due
abbrev pub IsSettled : ℕ → List (Option Source) → Type 0
IsSettled nanos sources = (d : ℕ) →
    (due_of nanos (source_in sources d) ≡ 0) × (some_source_after nanos (source_in sources d) ≡ source_in sources d)
    × (goes_by_program (source_in sources d) ≡ false)

-- the round passes over these devices, which have nothing due
pub record PassesOver (nanos to : ℕ) (old new : RoundState) : Type 0 where
  pub next : new.next ≡ to
  pub on : old.next ≤ to
  pub none : NoneDue nanos old.next to old.sources
  pub read : SourcesRead nanos old.next to old.sources new.sources
  pub same : new.ticked ≡ old.ticked
  pub reading : new.reading ≡ Some nanos
  pub last : new.last ≡ Some nanos

-- The round passes over the devices before the first with frames due, at most 4096 of them, and this one ticks. By the system's
-- clock no more are due.
pub record RoundTicks (nanos d n : ℕ) (old new : RoundState) : Type 0 where
  pub device : d < most_devices
  pub on : old.next ≤ d
  pub none : NoneDue nanos old.next d old.sources
  pub frames : IsDue nanos (source_at old d) n
  pub all : due_of nanos (source_at old d) ≤ n
  pub some : 1 ≤ n
  pub most : n ≤ longest_tick
  pub read : SourcesRead nanos old.next (d + 1) old.sources new.sources
  pub next : new.next ≡ d + 1
  pub ticked : new.ticked ≡ true
  pub reading : new.reading ≡ Some nanos
  pub last : new.last ≡ Some nanos

-- The round goes on, in the order of numbers, to the next device with a frame due, or past the last.
abbrev pub GoesOn : ℕ → RoundState → Option (ℕ × ℕ) → RoundState → Type 0
GoesOn nanos old None new = PassesOver nanos new.next old new × (most_devices ≤ new.next)
GoesOn nanos old (Some (d, n)) new = RoundTicks nanos d n old new
