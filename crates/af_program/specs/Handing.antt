-- Bytes go between a program and the queues before and after it.
use Rattle.std.specs.Prelude.{◌≡◌, ◌≤◌, ◌-◌, ℕ, nat_lt, Bool, true, false, List, [], ◌∷◌, ◌++◌, length, drop}
use Rattle.std.specs.declared.option.Option.{Option}
use Rattle.af_io.specs.Observed.{Appended}
use Rattle.af_program.specs.declared.program.Gave.{Gave}
use Rattle.af_program.specs.declared.program.Gave.TheVariants as gives
use Rattle.af_program.specs.declared.program.Took.{Took}
use Rattle.af_program.specs.declared.program.Took.TheVariants as takes
use Rattle.af_program.specs.Acts.{ToldAct, asked, gave, took_acts}

-- a take with room for so many bytes, which gave these
abbrev pub given_acts : ℕ → Gave → List ℕ → List ToldAct
given_acts room (gives.Bytes n) bytes = asked room (gives.Bytes n) ∷ gave bytes ∷ []
given_acts room gives.NotYet bytes = asked room gives.NotYet ∷ []
given_acts room gives.Ended bytes = asked room gives.Ended ∷ []

-- the acts of a call that is made, or not
abbrev pub acts_if : Bool → List ToldAct → List ToldAct
acts_if true acts = acts
acts_if false acts = []

-- what a program gave comes after what is left
abbrev pub left_with : Gave → List ℕ → List ℕ → List ℕ
left_with (gives.Bytes n) left bytes = left ++ bytes
left_with gives.NotYet left bytes = left
left_with gives.Ended left bytes = left

-- One take is made, with all the room that a queue of so many bytes has left, and what it gave is at the end of the queue. If it
-- has no room left no take is made, and the answer is NotYet.
pub record TakesInto (most : ℕ) (came : Gave) (before after : List ℕ) (acts acts' : Option (List ToldAct)) : Type 0 where
  pub bytes : List ℕ
  pub full : nat_lt (length before) most ≡ false → came ≡ gives.NotYet
  pub goes : after ≡ left_with came before bytes
  pub told : Appended acts (acts_if (nat_lt (length before) most) (given_acts (most - length before) came bytes)) acts'

-- One give is made, of all that is in a queue, and what was taken has left the front of the queue.
abbrev pub GivesFrom : Took → List ℕ → List ℕ → Option (List ToldAct) → Option (List ToldAct) → Type 0
GivesFrom (takes.Bytes n) before after acts acts' =
    (1 ≤ n) × (n ≤ length before) × (after ≡ drop n before) × Appended acts (took_acts (takes.Bytes n) before) acts'
GivesFrom takes.NoRoom before after acts acts' = (after ≡ before) × Appended acts (took_acts takes.NoRoom before) acts'
GivesFrom takes.Ended before after acts acts' = (after ≡ before) × Appended acts (took_acts takes.Ended before) acts'
