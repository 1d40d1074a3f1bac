-- What a live device adds to a log when it ticks.
use Rattle.std.specs.Prelude.{◌≡◌, ◌≤◌, ℕ, Bool, List, ◌++◌, true, false}
use Rattle.std.specs.declared.option.Option.{Option}
use Rattle.std.specs.declared.option.Option.TheVariants.{None}
use Rattle.af_limits.specs.Limits.{longest_tick}
use Rattle.af_io.specs.Observed.{Appended}
use Rattle.af_world.specs.Log.{Log}
use Rattle.af_model.specs.State.{State, DeviceState}
use Rattle.af_model.specs.Tick.{captured_samples, device_after, sound, tick}
use Rattle.af_model.specs.Turn.{accept, parse_then, parse_one, capture_by, after_capture}
use Rattle.af_model.specs.Run.{wakes}
use Rattle.af_state.specs.Kept.{KeptDevice, StandsForDevice}
use Rattle.af_core.specs.declared.tick.DeviceTick.{DeviceTick}

-- a tick has 1 to 4096 frames
abbrev pub IsTick : DeviceTick → Type 0
IsTick t = (1 ≤ t.frames) × (t.frames ≤ longest_tick)

-- n sample periods of a device went by, in which these bytes came, or none, and this sound goes out
pub record Passes (old new : KeptDevice) (n : ℕ) (came : Option (List ℕ)) (given : List ℕ) : Type 0 where
  pub stands : (device : DeviceState) → StandsForDevice old device →
      StandsForDevice new (device_after n (captured_samples device n came) device.is_dead device)
  pub gives : (device : DeviceState) → StandsForDevice old device → given ≡ sound device n

-- One part was added to the log: a capture of device d over n sample periods, in which these bytes came or none, and, if that was
-- done, an emit of its sound. The device went on by these periods, and is dead after them if a call failed.
pub record TicksLive (d n : ℕ) (old new : KeptDevice) (before after : Option Log) : Type 0 where
  pub part : Log
  pub told : Appended before part after
  pub quiet : wakes part ≡ 0
  pub came : Option (List ℕ)
  pub is_dead : Bool
  pub stands : (device : DeviceState) → StandsForDevice old device →
      StandsForDevice new (device_after n (captured_samples device n came) is_dead device)
  pub goes : (device : DeviceState) → StandsForDevice old device → (s : State) (more : Log) →
      parse_then (parse_one (capture_by d n device) (part ++ more)) (after_capture d n device s)
      ≡ accept (tick d n (captured_samples device n came) is_dead s) more

-- A dead device went on by silence, and nothing was added to the log. A live one made its calls.
abbrev pub Ticks : Bool → ℕ → ℕ → KeptDevice → KeptDevice → Option Log → Option Log → Type 0
Ticks true d n old new before after = (given : List ℕ) × Passes old new n None given × (before ≡ after)
Ticks false d n old new before after = TicksLive d n old new before after
