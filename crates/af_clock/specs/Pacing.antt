-- How many frames of a device are due, by readings of the system's clock.
use Rattle.std.specs.Prelude.{ℕ, ◌+◌, ◌-◌, ◌*◌, ◌/◌, min, Option, Some, None, unwrap_or}
use Rattle.af_limits.specs.Limits.{longest_tick}

-- the frames a second; how many of them are due at once at most; the first reading, in nanoseconds; and the frames that were
-- answered so far
pub record PaceState : Type 0 where
  pub rate : ℕ
  pub most : ℕ
  pub first : Option ℕ
  pub answered : ℕ

-- no reading so far; at most so many frames are due at once, and never more than 4096
abbrev pub pace_within : ℕ → ℕ → PaceState
pace_within most rate = record { rate = rate; most = min most longest_tick; first = None; answered = 0 }

-- no reading so far
abbrev pub new_pace : ℕ → PaceState
new_pace rate = pace_within longest_tick rate

-- the reading at which the time begins: the first one
abbrev pub first_reading : PaceState → ℕ → ℕ
first_reading p nanos = unwrap_or p.first nanos

-- the whole frames that have gone by since then
abbrev pub frames_gone_by : PaceState → ℕ → ℕ
frames_gone_by p nanos = (nanos - first_reading p nanos) * p.rate / 1000000000

-- those that were not answered yet, as many of them as may be due at once
abbrev pub due_at : PaceState → ℕ → ℕ
due_at p nanos = min (frames_gone_by p nanos - p.answered) p.most

-- they are answered then; the rest is due at a later reading
abbrev pub after_due : PaceState → ℕ → PaceState
after_due p nanos = record p { first = Some (first_reading p nanos); answered = p.answered + due_at p nanos }
