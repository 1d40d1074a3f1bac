-- Devices and lines are dead exactly if a call for them failed.
use Rattle.std.specs.Prelude.{◌≡◌, ℕ, ◌==◌, ◌&&◌, not, Bool, false, List, slice_get, IfSome}
use Rattle.std.specs.List.{list_any}
use Rattle.std.specs.declared.option.Option.TheVariants.{None}
use Rattle.af_world.specs.declared.happening.Happening.{Happening}
use Rattle.af_world.specs.declared.happening.Happening.TheVariants.{Captured, Emitted, Hooked}
use Rattle.af_world.specs.declared.script.DeviceSpec.{DeviceSpec}
use Rattle.af_world.specs.Log.{Log}
use Rattle.af_model.specs.Run.{end_state}

-- whether this is a capture or an emit of device d that failed
abbrev pub fails_device : ℕ → Happening → Bool
fails_device d (Captured device frames None) = device == d
fails_device d (Emitted device sound done) = not done && device == d
fails_device d _ = false

-- whether this is a hook call for the line of device d that failed
abbrev pub fails_line : ℕ → Happening → Bool
fails_line d (Hooked device off done) = not done && device == d
fails_line d _ = false

-- after a run a device is dead exactly if a capture or an emit of it failed, and a line exactly if a hook call for it did
abbrev pub IsDeadWhereFailed : List DeviceSpec → Log → Type 0
IsDeadWhereFailed config log =
    IfSome (end_state config log) (λ s. (d : ℕ) → IfSome (slice_get s.devices d) (λ device.
    (device.is_dead ≡ list_any (fails_device d) log) × IfSome device.line (λ line. line.dead ≡ list_any (fails_line d) log)))
