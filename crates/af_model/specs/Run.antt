-- A run: turns, one after another, from the opening state.
use Rattle.std.specs.Prelude.{◌≡◌, ℕ, zero, suc, true, List, [], ◌∷◌, is_some}
use Rattle.std.specs.declared.option.Option.{Option}
use Rattle.std.specs.declared.option.Option.TheVariants.{None, Some}
use Rattle.af_world.specs.declared.happening.Happening.TheVariants.{Woke}
use Rattle.af_world.specs.declared.script.DeviceSpec.{DeviceSpec}
use Rattle.af_world.specs.Log.{Log}
use Rattle.af_model.specs.State.{State, opening_state}
use Rattle.af_model.specs.Turn.{Parsed, turn}

-- how many turns a log has: as many as wakes
abbrev pub wakes : Log → ℕ
wakes [] = zero
wakes (Woke wake ∷ log) = suc (wakes log)
wakes (h ∷ log) = wakes log

abbrev pub then_end : Option (Parsed State) → (State → Log → Option State) → Option State
then_end None f = None
then_end (Some b) f = f b.state b.log

-- the state after n turns, if the log is exactly these
abbrev pub end_by : ℕ → State → Log → Option State
end_by zero s [] = Some s
end_by zero s (h ∷ log) = None
end_by (suc n) s log = then_end (turn s log) (end_by n)

-- the state that a log ends in, if it is a run of the configuration
unfoldable pub end_state : List DeviceSpec → Log → Option State
end_state config log = end_by (wakes log) (opening_state config) log

-- the log is a run of the abstract server with these devices
abbrev pub IsRun : List DeviceSpec → Log → Type 0
IsRun config log = is_some (end_state config log) ≡ true
