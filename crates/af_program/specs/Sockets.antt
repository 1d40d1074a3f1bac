-- Programs of the system.
use Rattle.std.specs.Prelude.{◌≤◌, ◌≡◌, ℕ, ℤ, Bool, true, false, List, length, take}
use Rattle.std.specs.declared.option.Option.{Option}
use Rattle.std.specs.declared.option.Option.TheVariants.{None, Some}
use Rattle.std.specs.Io.KnownBytes.{Keeps, Appends, Consumes}
use Rattle.af_io.specs.declared.reason.Reason.{Reason}
use Rattle.af_program.specs.declared.program.Gave.{Gave}
use Rattle.af_program.specs.declared.program.Gave.TheVariants as gives
use Rattle.af_program.specs.declared.program.Took.{Took}
use Rattle.af_program.specs.declared.program.Took.TheVariants as takes
use Rattle.af_program.specs.declared.ways.Ways.{Ways}
use Rattle.af_program.specs.declared.ways.Ways.TheVariants as way

-- A program of the system: which ways it has; the size that is asked for of the buffer before its input; whether it runs; how
-- many that were told to end are looked after; why the last start failed; and the status of the one that ended last, if it is
-- known.
pub record SocketProgramState : Type 0 where
  pub ways : Ways
  pub input_bytes : ℕ
  pub runs : Bool
  pub ending : ℕ
  pub reason : Option Reason
  pub ended : Option ℤ

-- whether a program that has these ways is given bytes
abbrev pub is_given : Ways → Bool
is_given way.Gives = false
is_given _ = true

-- whether a program that has these ways gives bytes
abbrev pub is_giving : Ways → Bool
is_giving way.Given = false
is_giving _ = true

-- only a program that runs and gives bytes gives some
abbrev pub GivesWhere : Option Ways → Gave → Type 0
GivesWhere None gave = gave ≡ gives.Ended
GivesWhere (Some ways) gave = is_giving ways ≡ false → gave ≡ gives.Ended

-- only a program that runs and is given bytes takes some
abbrev pub TakesWhere : Option Ways → Took → Type 0
TakesWhere None took = took ≡ takes.Ended
TakesWhere (Some ways) took = is_given ways ≡ false → took ≡ takes.Ended

-- what is given is what the reader gave next, and nothing of it is lost
abbrev pub GivesOn : Gave → Option (List ℕ) → List ℕ → Option (List ℕ) → Type 0
GivesOn (gives.Bytes n) before into after = (1 ≤ n) × (n ≤ length into) × Consumes before after (take n into)
GivesOn gives.NotYet before into after = Keeps before after
GivesOn gives.Ended before into after = Keeps before after

-- what is taken is handed to the writer, and nothing else
abbrev pub TakesOn : Took → Option (List ℕ) → List ℕ → Option (List ℕ) → Type 0
TakesOn (takes.Bytes n) before bytes after = (1 ≤ n) × (n ≤ length bytes) × Appends before after (take n bytes)
TakesOn takes.NoRoom before bytes after = Keeps before after
TakesOn takes.Ended before bytes after = Keeps before after
