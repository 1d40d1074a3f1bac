-- A link which never acts on a device changes nothing for all others.
use Rattle.std.specs.Prelude.{◌≡◌, ◌≢◌, ℕ, false, List, IfSome}
use Rattle.std.specs.declared.option.Option.TheVariants.{Some}
use Rattle.af_world.specs.declared.script.DeviceSpec.{DeviceSpec}
use Rattle.af_world.specs.Log.{Log}
use Rattle.af_model.specs.State.{State, slot_at}
use Rattle.af_model.specs.LinkHistory.{history}
use Rattle.af_model.specs.Run.{end_state}
use Rattle.af_isolation.specs.Without.{acted_on, device_calls, state_without, without}

-- link k never had a play with a frame accepted, never set a control and never moved a hook
abbrev pub IsSilent : ℕ → State → Type 0
IsSilent k end = acted_on k end.devices ≡ false

abbrev pub Silent : ℕ → List DeviceSpec → Log → Type 0
Silent k config log = IfSome (end_state config log) (IsSilent k)

-- Without link k the log is also a run of the same configuration, and comes to the same state except for that link. In that run
-- every other link gives and takes the same bytes, has the same bytes queued, and ends, fails and is closed alike. Every device
-- is asked for the same, hands out the same sound, and has its hook moved alike.
pub record ChangesNothing (config : List DeviceSpec) (log : Log) (k : ℕ) (end : State) : Type 0 where
  pub run : end_state config (without k log) ≡ Some (state_without k end)
  pub others : (j : ℕ) → j ≢ k → history j (without k log) ≡ history j log
  pub said : (j : ℕ) → j ≢ k → slot_at j (state_without k end) ≡ slot_at j end
  pub devices : device_calls (without k log) ≡ device_calls log

-- each silent link of a run changes nothing in it
abbrev pub IsolatesLinks : List DeviceSpec → Log → Type 0
IsolatesLinks config log = IfSome (end_state config log) (λ end. (k : ℕ) → IsSilent k end → ChangesNothing config log k end)
