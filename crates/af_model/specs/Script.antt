-- The one log of a script: a run of the server, with the wakes and the answers that the script states.
use Rattle.std.specs.Prelude.{◌≡◌, List, [], ◌∷◌, IsSomeAnd}
use Rattle.af_world.specs.declared.happening.Happening.TheVariants.{Woke}
use Rattle.af_world.specs.declared.script.DeviceSpec.{DeviceSpec}
use Rattle.af_world.specs.declared.script.Step.{Step}
use Rattle.af_world.specs.Log.{Log}
use Rattle.af_world.specs.Outside.{Outside, outside_start, outside_after_step, wake_of, outside_after_happening}
use Rattle.af_model.specs.Run.{IsRun}

-- From one outside to another, the log has the wake of each step in order, and between them the answers that the outside of
-- that moment gives.
abbrev pub AnswersTo : Outside → Log → List Step → Outside → Type 0
AnswersTo o [] [] end = end ≡ o
AnswersTo o [] (step ∷ steps) end = ⊥
AnswersTo o (Woke wake ∷ log) [] end = ⊥
AnswersTo o (Woke wake ∷ log) (step ∷ steps) end = (wake ≡ wake_of o step) × AnswersTo (outside_after_step o step) log steps end
AnswersTo o (h ∷ log) steps end = IsSomeAnd (outside_after_happening o h) (λ o. AnswersTo o log steps end)

-- the log is a run, with one turn for each step of the script and the answers that the script states
pub record ScriptLog (config : List DeviceSpec) (steps : List Step) (log : Log) : Type 0 where
  pub is_run : IsRun config log
  pub end : Outside
  pub answers : AnswersTo (outside_start config) log steps end

-- the script has this log, and no other
pub record OneLog (config : List DeviceSpec) (steps : List Step) (log : Log) : Type 0 where
  pub is_log : ScriptLog config steps log
  pub only : (other : Log) → ScriptLog config steps other → other ≡ log
