-- A program in memory, which answers by a plan.
use Rattle.std.specs.Prelude.{ℕ, Bool, zero, suc, List, min}
use Rattle.std.specs.declared.option.Option.{Option}
use Rattle.std.specs.declared.option.Option.TheVariants.{None, Some}
use Rattle.af_program.specs.declared.program.Gave.{Gave}
use Rattle.af_program.specs.declared.program.Gave.TheVariants as gives
use Rattle.af_program.specs.declared.program.Took.{Took}
use Rattle.af_program.specs.declared.program.Took.TheVariants as takes
use Rattle.af_program.specs.Acts.{ToldAct}

-- A program in memory: the acts so far, if they are observable; whether it runs; the numbers of its starts that fail; the bytes
-- that it has not given; what each take gives and each give takes at most (None: it gives or takes none any more); and the
-- numbers of its next start, of its next take and of its next give.
pub record MemProgramState : Type 0 where
  pub acts : Option (List ToldAct)
  pub runs : Bool
  pub fails : List ℕ
  pub left : List ℕ
  pub gives : List (Option ℕ)
  pub takes : List (Option ℕ)
  pub starts : ℕ
  pub take_calls : ℕ
  pub give_calls : ℕ

-- how many bytes an answer has
abbrev pub gave_count : Gave → ℕ
gave_count (gives.Bytes n) = n
gave_count gives.NotYet = 0
gave_count gives.Ended = 0

-- so many bytes are given, if there are any
abbrev pub gave_some : ℕ → Gave
gave_some zero = gives.NotYet
gave_some (suc n) = gives.Bytes (suc n)

-- the answer of a take, by what is stated for it, how many bytes are left and for how many there is room; after all that is
-- stated, a take gives none
abbrev pub gave_of : Option (Option ℕ) → ℕ → ℕ → Gave
gave_of None left room = gives.NotYet
gave_of (Some None) left room = gives.Ended
gave_of (Some (Some most)) left room = gave_some (min (min most left) room)

-- so many bytes are taken, if there are any
abbrev pub took_some : ℕ → Took
took_some zero = takes.NoRoom
took_some (suc n) = takes.Bytes (suc n)

-- the answer of a give, by what is stated for it and how many bytes are offered; after all that is stated, a give takes all
abbrev pub took_of : Option (Option ℕ) → ℕ → Took
took_of None offered = took_some offered
took_of (Some None) offered = takes.Ended
took_of (Some (Some most)) offered = took_some (min most offered)
