-- The acts of a program and of its device, and the answers of a program in them.
use Rattle.std.specs.Prelude.{◌≡◌, ◌≤◌, ⊤, ℕ, Bool, true, false, IsTrue, IsFalse, List, [], ◌∷◌, length, take}
use Rattle.std.specs.List.{fold}
use Rattle.std.specs.declared.option.Option.{Option}
use Rattle.std.specs.declared.option.Option.TheVariants.{None, Some}
use Rattle.af_program.specs.declared.program.Launched.{Launched}
use Rattle.af_program.specs.declared.program.Launched.TheVariants as launch
use Rattle.af_program.specs.declared.program.Gave.{Gave}
use Rattle.af_program.specs.declared.program.Gave.TheVariants as gives
use Rattle.af_program.specs.declared.program.Took.{Took}
use Rattle.af_program.specs.declared.program.Took.TheVariants as takes

-- An act: a start at a moment, by the bytes of each word, with its outcome; a take, by its room and its answer; bytes that the
-- program gave; a give, by the bytes that were offered and its answer; bytes that the program took; its end, at a moment; the
-- sound that the device captured in a tick, or emitted.
pub data ToldAct : Type 0 where
  launched : ℕ → List (List ℕ) → Launched → ToldAct
  asked : ℕ → Gave → ToldAct
  gave : List ℕ → ToldAct
  offered : List ℕ → Took → ToldAct
  took : List ℕ → ToldAct
  ended : ℕ → ToldAct
  captured : List ℕ → ToldAct
  emitted : List ℕ → ToldAct

-- Takes and gives, each with its answer. No other call adds these acts, so that they tell how often each was made, too.

-- a take that left these bytes in its room
abbrev pub gave_acts : Gave → List ℕ → List ToldAct
gave_acts (gives.Bytes n) into = asked (length into) (gives.Bytes n) ∷ gave (take n into) ∷ []
gave_acts gives.NotYet into = asked (length into) gives.NotYet ∷ []
gave_acts gives.Ended into = asked (length into) gives.Ended ∷ []

-- a give of these bytes
abbrev pub took_acts : Took → List ℕ → List ToldAct
took_acts (takes.Bytes n) bytes = offered bytes (takes.Bytes n) ∷ took (take n bytes) ∷ []
took_acts takes.NoRoom bytes = offered bytes takes.NoRoom ∷ []
took_acts takes.Ended bytes = offered bytes takes.Ended ∷ []

-- at least one byte came, and at most as many as there was room for
abbrev pub GaveFits : Gave → ℕ → Type 0
GaveFits (gives.Bytes n) room = (1 ≤ n) × (n ≤ room)
GaveFits gives.NotYet room = ⊤
GaveFits gives.Ended room = ⊤

-- at least one byte was taken, and at most as many as there were
abbrev pub TookFits : Took → ℕ → Type 0
TookFits (takes.Bytes n) count = (1 ≤ n) × (n ≤ count)
TookFits takes.NoRoom count = ⊤
TookFits takes.Ended count = ⊤

-- Whether it runs

-- whether it runs after an act: from a start on that succeeds, until it is ended
abbrev pub runs_after : Bool → ToldAct → Bool
runs_after runs (launched at words launch.Runs) = true
runs_after runs (launched at words launch.Failed) = runs
runs_after runs (launched at words launch.OutOfMemory) = runs
runs_after runs (asked room came) = runs
runs_after runs (gave bytes) = runs
runs_after runs (offered bytes answer) = runs
runs_after runs (took bytes) = runs
runs_after runs (ended at) = false
runs_after runs (captured sound) = runs
runs_after runs (emitted sound) = runs

abbrev pub runs_in : List ToldAct → Bool
runs_in acts = fold runs_after false acts

-- if the acts are observable, they show that it runs
abbrev pub RunsWhereTold : Option (List ToldAct) → Type 0
RunsWhereTold None = ⊤
RunsWhereTold (Some acts) = IsTrue (runs_in acts)

-- if the acts are observable, they show that it does not run
abbrev pub IdlesWhereTold : Option (List ToldAct) → Type 0
IdlesWhereTold None = ⊤
IdlesWhereTold (Some acts) = IsFalse (runs_in acts)

-- if the acts are observable, there are none
abbrev pub TellsNothing : Option (List ToldAct) → Type 0
TellsNothing None = ⊤
TellsNothing (Some acts) = acts ≡ []
