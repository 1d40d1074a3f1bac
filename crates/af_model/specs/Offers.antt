-- No write offers more than may wait to be sent.
use Rattle.std.specs.Prelude.{◌≤◌, List, length, IfSome}
use Rattle.std.specs.List.{All}
use Rattle.af_limits.specs.Limits.{most_devices, most_pending}
use Rattle.af_world.specs.declared.happening.Happening.{Happening}
use Rattle.af_world.specs.declared.happening.Happening.TheVariants.{Wrote}
use Rattle.af_world.specs.declared.script.DeviceSpec.{DeviceSpec}
use Rattle.af_world.specs.Log.{Log}
use Rattle.af_model.specs.Run.{end_state}

-- a write offers at most the bytes that may wait to be sent
abbrev pub IsOfferWithin : Happening → Type 0
IsOfferWithin (Wrote link offered took) = offered ≤ most_pending
IsOfferWithin _ = Unit {0}

-- this holds of each write in a run over at most eight devices
abbrev pub OffersWithin : List DeviceSpec → Log → Type 0
OffersWithin config log = length config ≤ most_devices → IfSome (end_state config log) (λ end. All IsOfferWithin log)
