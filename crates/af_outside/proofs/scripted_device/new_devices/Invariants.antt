use Rattle.std.proofs.Common.{◌≡◌, map, take}
use Rattle.af_outside.specs.Tape.{kept_scripted_of}
use Rattle.af_outside.proofs.scripted_device.new_devices.Given as goal

abbrev pub invariant-loop-device : goal.invariant-loop-device
invariant-loop-device l = l.devices.items ≡ map (λ d. kept_scripted_of d.ty) (take l.device-index l.given)
