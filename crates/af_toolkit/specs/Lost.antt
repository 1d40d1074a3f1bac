-- Sound that is lost: a play comes too late, or what is recorded has left the server. And how a tool ends that lost some.
use Rattle.std.specs.Prelude.{ℕ, ◌+◌, ◌-◌, ◌%◌, ◌^◌, ◌&&◌, nat_lt, if◌then◌else◌, Bool}
use Rattle.af_toolkit.specs.Trace.{Finish, done, sound_lost}

-- by how many sample periods a time is before another: their 32-bit two's complement difference, if that is above 0
abbrev pub periods_before : (time other : ℕ) → ℕ
periods_before time other =
    if nat_lt ((other + (2 ^ 32 - time)) % 2 ^ 32) (2 ^ 31) then (other + (2 ^ 32 - time)) % 2 ^ 32 else 0

-- the time so many frames before another
abbrev pub time_before : (at frames : ℕ) → ℕ
time_before at frames = (at + (2 ^ 32 - frames % 2 ^ 32)) % 2 ^ 32

-- A frame of a play is late where its time is before the time that the reply tells. The first frame of a block is the first to
-- be late, so it says whether any is.
abbrev pub is_late : (first told : ℕ) → Bool
is_late first told = nat_lt 0 (periods_before first told)

-- A frame of a record had left the server where its time is more than the horizon before the time that the reply tells. The
-- first frame of a block is the first to leave.
abbrev pub had_left : (horizon first told : ℕ) → Bool
had_left horizon first told = is_late first (time_before told horizon)

-- how a tool ends that did all: one that is strict says if sound was lost
abbrev pub finish_by : (strict lost : Bool) → Finish
finish_by strict lost = if strict && lost then sound_lost else done
